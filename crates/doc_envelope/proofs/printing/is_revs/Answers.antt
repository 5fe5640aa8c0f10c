use Rattle.doc_envelope.proofs.{printed_revs}
use Rattle.doc_envelope.proofs.printing.is_revs.Goals as goal

pub returns-in-Some : goal.returns-in-Some
returns-in-Some c = λ h. printed_revs c.args.member.now c.in-Some.value.now c.in-Some.ensures (c.is_revisions.ensures h)
