use Rattle.proof_prelude.proofs.{arith}
use Rattle.diagrams.specs.{listed}
use Rattle.diagrams.proofs.{rows_more}
use Rattle.diagrams.proofs.lines.draw_listed.Goals as goal

pub loop-i-preserved : goal.loop-i-preserved
loop-i-preserved c =
    rows_more listed _ _ _ c.args.revs.now c.loop-i.i c.index-revs-i.result (omega arith) c.index-revs-i.is c.loop-i.invariant
    c.in_ok-put_listed.ensures
