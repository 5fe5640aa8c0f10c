use Rattle.proof_prelude.proofs.{arith}
use Rattle.diagrams.specs.{signs_of_session}
use Rattle.diagrams.proofs.{all_more}
use Rattle.diagrams.proofs.sessions.draw_sessions.Goals as goal

pub loop-i-preserved : goal.loop-i-preserved
loop-i-preserved c =
    all_more (signs_of_session c.args.form c.most_read-most.result) _ _ _ c.args.entries.now c.loop-i.i c.index-entries-i.result (omega arith)
    c.index-entries-i.is c.loop-i.invariant c.in_ok-draw_session.ensures
