use Rattle.proof_prelude.proofs.{[]}
use Rattle.diagrams.proofs.{then_by}
use Rattle.diagrams.proofs.lines.end_line.Goals as goal

pub returns : goal.returns
returns c = then_by c.mark-3.result _ _ _ [] [] c.in_ok-mark.ensures.draws c.mark-3.ensures.draws
