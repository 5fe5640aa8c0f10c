use Rattle.proof_prelude.proofs.{[]}
use Rattle.diagrams.proofs.{drawn_then, then_by}
use Rattle.diagrams.proofs.svg.draw_curve.Goals as goal

pub returns : goal.returns
returns c =
    then_by c.mark-5.result _ _ _ [] []
    (drawn_then _ _ _ [] [] (drawn_then _ _ _ [] [] (drawn_then _ _ _ [] [] (drawn_then _ _ _ [] [] (drawn_then _ _ _ [] [] (drawn_then _ _ _ [] [] (drawn_then _ _ _ [] [] c.in_ok-mark.ensures.draws c.in_ok-draw_point.ensures) c.in_ok-mark-2.ensures.draws) c.in_ok-draw_point-2.ensures) c.in_ok-mark-3.ensures.draws) c.in_ok-draw_point-3.ensures) c.in_ok-mark-4.ensures.draws) c.in_ok-draw_point-4.ensures)
    c.mark-5.ensures.draws
