use Rattle.doc_envelope.proofs.{id_some}
use Rattle.doc_envelope.proofs.printing.after_id.Goals as goal

pub returns-in-Some : goal.returns-in-Some
returns-in-Some c = id_some c.after.result c.args.text.now c.in-Some.rest.now c.in-Some.ensures c.after.ensures
