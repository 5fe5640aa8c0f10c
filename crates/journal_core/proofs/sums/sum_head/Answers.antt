use Rattle.proof_prelude.proofs.{common_steps, arith}
use Rattle.journal_core.specs.{sum_head}
use Rattle.journal_core.proofs.sums.sum_head.Goals as goal

pub returns : goal.returns
unfolding sum_head
returns c = grind (arith, common_steps)
