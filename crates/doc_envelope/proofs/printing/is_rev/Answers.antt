use Rattle.doc_envelope.proofs.{printed_rev}
use Rattle.doc_envelope.proofs.printing.is_rev.Goals as goal

pub returns-in-Some : goal.returns-in-Some
returns-in-Some c = λ h. printed_rev c.args.member.now c.in-Some.value.now c.in-Some.ensures (c.is_string.ensures h)
