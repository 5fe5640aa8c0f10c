use Rattle.std.proofs.Common.{refl}
use Rattle.relay_responses.proofs.Maps.{last_members-next}
use Rattle.relay_responses.proofs.diffs.last_members.Goals as goal

pub loop-member-preserved : goal.loop-member-preserved
loop-member-preserved c =
    last_members-next c.deref-member-items.result.now c.loop-member.member-index c.member-item.result _ c.loop-member.found.entries c.insert.new.self.entries _
    c.loop-member-test.true c.member-item.is refl c.in_ok-insert.ensures.entries c.loop-member.invariant
