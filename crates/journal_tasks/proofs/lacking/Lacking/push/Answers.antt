use Rattle.proof_prelude.proofs.{[], ◌++◌, option_map, sym, ap, ◌∙◌}
use Rattle.line_reader.proofs.{on_ok}
use Rattle.journal_lines.specs.Docs.{docs_view}
use Rattle.journal_tasks.specs.{add_leaves, missing_by}
use Rattle.journal_tasks.proofs.{missing_found}
use Rattle.journal_tasks.proofs.lacking.Lacking.push.Goals as goal

pub returns-in-Some-clause-text : goal.returns-in-Some-clause-text
returns-in-Some-clause-text c =
    let docs = docs_view c.args.self.now.docs in
    on_ok c.push_docs.result (λ t. t ∙ ap (λ z. c.args.text.now.items ++ z) (missing_found docs (missing_by docs c.args.self.now.response.items) (docs_view c.in-Some.missing)
    (sym (ap (option_map docs_view) c.in-Some.is) ∙ c.in_ok-missing.ensures ∙ ap (λ z. option_map (add_leaves []) (missing_by docs z)) c.as_slice-response.ensures.value))) c.push_docs.ensures
