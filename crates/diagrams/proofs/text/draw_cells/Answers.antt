use Rattle.proof_prelude.proofs.{[]}
use Rattle.diagrams.proofs.{drawn_then}
use Rattle.diagrams.proofs.text.draw_cells.Goals as goal

pub loop-i-preserved : goal.loop-i-preserved
loop-i-preserved c = drawn_then _ _ _ [] [] c.loop-i.invariant c.in_ok-draw_column.ensures
