use Rattle.doc_envelope.proofs.{ids_end, ids_shorter, ids_step}
use Rattle.doc_envelope.proofs.printing.are_ids.Goals as goal

pub loop-more-preserved : goal.loop-more-preserved
loop-more-preserved c = λ a. c.loop-more.invariant (ids_step c.loop-more.rest.now c.in-Some.more.now c.in-Some.ensures a)

pub loop-more-smaller : goal.loop-more-smaller
loop-more-smaller c = ids_shorter c.loop-more.rest.now c.in-Some.more.now c.in-Some.ensures

pub returns : goal.returns
returns c = λ h. c.loop-more.invariant (ids_end c.loop-more.rest.now (c.is_last_id.ensures h))
