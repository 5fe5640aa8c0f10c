use Rattle.proof_prelude.proofs.{ap, ◌∙◌}
use Rattle.journal_tasks.specs.Selecting.{text_number}
use Rattle.journal_tasks.proofs.{number_put}
use Rattle.journal_tasks.proofs.numbers.put_number.Goals as goal

pub returns : goal.returns
returns c = λ id rev.
    number_put c.args.numbers.now c.insert.new.self c.insert-3.new.self c.in_ok-id.id c.args.leaf.id c.args.leaf.rev c.new.result c.or_empty-lines.result c.insert-2.new.self c.args.number id rev (c.in_ok-id.ensures.ok ∙ c.as_str.ensures.value) c.in_ok-old.ensures.updates (λ x. c.or_empty-lines.ensures x ∙ ap (λ o. text_number o x) c.in_ok-old.ensures.old) c.in_ok-insert.ensures.updates c.in_ok-insert-2.ensures.updates
