use Rattle.proof_prelude.proofs.{[]}
use Rattle.diagrams.proofs.{then_by}
use Rattle.diagrams.proofs.text.draw_ancestor.Goals as goal

pub returns : goal.returns
returns c =
    then_by c.blanks.result _ _ _ [] []
    c.in_ok-short_rev.ensures.draws
    c.blanks.ensures.draws
