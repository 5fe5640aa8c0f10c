use Rattle.doc_envelope.proofs.{printed_revisions}
use Rattle.doc_envelope.proofs.printing.is_revisions.Goals as goal

pub returns-in-Some : goal.returns-in-Some
returns-in-Some c = λ h. printed_revisions c.args.value.now c.in-Some.start.now c.in-Some.ensures (c.is_started.ensures h)
