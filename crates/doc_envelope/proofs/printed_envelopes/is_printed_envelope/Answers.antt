use Rattle.doc_envelope.proofs.PrintedEnvelopes.{front_first, front_json, front_more}
use Rattle.doc_envelope.proofs.printed_envelopes.is_printed_envelope.Goals as goal

pub loop-member-init : goal.loop-member-init
loop-member-init c = front_first c.args.text.now c.in-Some.members.now c.in-Some.ensures

pub loop-member-preserved : goal.loop-member-preserved
loop-member-preserved c =
    front_more c.args.text.now c.loop-member.rest.now c.in-Some-split_front.member.now c.in-Some-split_front.more.now c.in-Some-split_front.ensures
    (c.is_printed_member.ensures c.if-not-is_printed_member.false) c.loop-member.invariant

pub returns : goal.returns
returns c = λ h. front_json c.args.text.now c.loop-member.rest.now c.loop-member.invariant (c.is_last.ensures h)
