use Rattle.proof_prelude.proofs.{ap, ◌∙◌, nat_eq, starts_with}
use Rattle.journal_core.specs.{is_sum}
use Rattle.journal_tasks.proofs.journal.is_sum.Goals as goal

pub returns : goal.returns
unfolding is_sum
returns c = c.starts_with.ensures.value ∙ ap (λ z. starts_with nat_eq c.args.line.now z) c.as_slice.ensures
