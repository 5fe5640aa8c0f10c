use Rattle.relay_responses.proofs.Maps.{add_revs-next}
use Rattle.relay_responses.proofs.pages.add_revs.Goals as goal

pub loop-rev-preserved : goal.loop-rev-preserved
loop-rev-preserved c =
    add_revs-next c.args.revs.now c.loop-rev.rev-index c.rev-item.result c.as_str.result c.loop-rev.known.keys c.insert.new.self.keys _
    c.loop-rev-test.true c.rev-item.is c.as_str.ensures.value c.in_ok-insert.ensures.keys c.loop-rev.invariant
