use Rattle.proof_prelude.proofs.{[]}
use Rattle.diagrams.proofs.{drawn_then, then_by}
use Rattle.diagrams.proofs.text.draw_fold.Goals as goal

pub returns : goal.returns
returns c =
    then_by c.blanks.result _ _ _ [] []
    (drawn_then _ _ _ [] [] c.in_ok-number.ensures.draws c.in_ok-mark.ensures.draws)
    c.blanks.ensures.draws
