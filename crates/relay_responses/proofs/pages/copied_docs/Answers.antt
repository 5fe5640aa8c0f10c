use Rattle.relay_responses.proofs.Maps.{copied-next}
use Rattle.relay_responses.proofs.pages.copied_docs.Goals as goal

pub loop-i-preserved : goal.loop-i-preserved
loop-i-preserved c =
    copied-next c.args.docs.now.entries c.loop-i.i c.in-Some.id.now c.in-Some.revs.now c.in_ok-copied_doc.field-0 c.loop-i.copies.items c.push.new.self.items _
    c.in-Some.ensures.entry c.in_ok-copied_doc.ensures c.in_ok-push.ensures.items c.loop-i.invariant
