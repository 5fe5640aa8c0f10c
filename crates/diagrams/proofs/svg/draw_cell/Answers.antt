use Rattle.proof_prelude.proofs.{[]}
use Rattle.diagrams.proofs.{drawn_then, then_by}
use Rattle.diagrams.proofs.svg.draw_cell.Goals as goal

pub returns-then-cell : goal.returns-then-cell
returns-then-cell c =
    then_by c.draw_fold.result _ _ _ [] []
    (drawn_then _ _ _ [] [] c.in_ok-mark.ensures.draws c.in_ok-draw_point.ensures)
    c.draw_fold.ensures

pub returns-in-Some : goal.returns-in-Some
returns-in-Some c =
    then_by c.draw_ancestor.result _ _ _ [] []
    (drawn_then _ _ _ [] [] c.in_ok-mark.ensures.draws c.in_ok-draw_point.ensures)
    c.draw_ancestor.ensures

pub returns-in-None : goal.returns-in-None
returns-in-None c =
    then_by c.mark-in-None.result _ _ _ [] []
    (drawn_then _ _ _ [] [] c.in_ok-mark.ensures.draws c.in_ok-draw_point.ensures)
    c.mark-in-None.ensures.draws
