use Rattle.doc_envelope.proofs.PrintedEnvelopes.{printed_whole}
use Rattle.doc_envelope.proofs.printed_envelopes.is_whole.Goals as goal

pub returns-in-Some : goal.returns-in-Some
returns-in-Some c = λ h. printed_whole c.args.member.now c.in-Some.value.now c.in-Some.ensures (c.is_quoted.ensures h)
