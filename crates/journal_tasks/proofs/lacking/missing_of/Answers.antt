use Rattle.proof_prelude.proofs.{◌≡◌, [], IfOk, option_and_then, option_map, subst, sym, ap, ◌∙◌}
use Rattle.json.specs.Find.{as_object}
use Rattle.json.specs.Value.{members_view, value_view}
use Rattle.json.proofs.Trees.{view-Object}
use Rattle.journal_lines.specs.Docs.{docs_view}
use Rattle.journal_tasks.specs.{add_leaves, missing_among}
use Rattle.journal_tasks.proofs.lacking.missing_of.Goals as goal

pub returns : goal.returns
returns c =
    let docs = docs_view c.args.docs.now in
    subst (λ z. IfOk c.missing_among.result (λ o. option_map docs_view o ≡ option_map (add_leaves []) (option_and_then (missing_among docs) (as_object z)))) (sym (ap value_view c.in-Object.is ∙ view-Object c.in-Object.members))
    (subst (λ z. IfOk c.missing_among.result (λ o. option_map docs_view o ≡ option_map (add_leaves []) (missing_among docs (members_view z)))) c.as_slice.ensures.value c.missing_among.ensures)
