use Rattle.proof_prelude.proofs.{ap, ◌∙◌, bytes_eq, cond-false, option_map}
use Rattle.journal_tasks.specs.Receiving.{doc_at, doc_or_new, doc_view}
use Rattle.journal_tasks.proofs.{doc_put}
use Rattle.journal_tasks.proofs.received.take_out.Goals as goal

pub returns-clause-taken : goal.returns-clause-taken
returns-clause-taken c = c.or_new.ensures ∙ ap (λ o. doc_or_new (option_map doc_view o)) c.in_ok-old.ensures.old ∙ ap (λ z. doc_or_new (doc_at c.args.docs.now z)) c.in_ok-key.ensures.ok

pub returns-clause-others : goal.returns-clause-others
returns-clause-others c = λ other miss.
    doc_put c.args.docs.now c.insert.new.self c.in_ok-key.key _ _ c.in_ok-key.ensures.ok c.in_ok-old.ensures.updates other ∙ cond-false (bytes_eq c.args.id.now other) _ _ miss
