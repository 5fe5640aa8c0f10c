use Rattle.proof_prelude.proofs.{[]}
use Rattle.diagrams.proofs.{drawn_then}
use Rattle.diagrams.proofs.sheet.blanks.Goals as goal

pub loop-turn-preserved : goal.loop-turn-preserved
loop-turn-preserved c = drawn_then _ _ _ [] [] c.loop-turn.invariant c.in_ok-mark.ensures.draws
