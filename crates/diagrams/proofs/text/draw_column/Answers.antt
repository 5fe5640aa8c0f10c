use Rattle.proof_prelude.proofs.{[]}
use Rattle.diagrams.proofs.{then_by}
use Rattle.diagrams.proofs.text.draw_column.Goals as goal

pub returns-then-cell-generation-2 : goal.returns-then-cell-generation-2
returns-then-cell-generation-2 c = then_by c.draw_cell.result _ _ _ [] [] c.in_ok-draw_edge.ensures c.draw_cell.ensures
