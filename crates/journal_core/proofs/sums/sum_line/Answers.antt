use Rattle.proof_prelude.proofs.{common_steps, arith}
use Rattle.journal_core.specs.{sum_line}
use Rattle.journal_core.proofs.sums.sum_line.Goals as goal

pub returns : goal.returns
unfolding sum_line
returns c = grind (arith, common_steps)
