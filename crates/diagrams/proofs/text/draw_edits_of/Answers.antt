use Rattle.proof_prelude.proofs.{arith}
use Rattle.diagrams.specs.{edit_of}
use Rattle.diagrams.proofs.{all_more}
use Rattle.diagrams.proofs.text.draw_edits_of.Goals as goal

pub loop-i-preserved : goal.loop-i-preserved
loop-i-preserved c =
    all_more (edit_of c.args.db.now c.args.id.now) _ _ _ c.args.leaves.now c.loop-i.i c.index-leaves-i.result (omega arith) c.index-leaves-i.is c.loop-i.invariant
    c.in_ok-draw_edit.ensures
