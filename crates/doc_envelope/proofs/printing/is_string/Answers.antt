use Rattle.proof_prelude.proofs.{sym, ◌∙◌}
use Rattle.doc_envelope.proofs.{printed_string}
use Rattle.doc_envelope.proofs.printing.is_string.Goals as goal

pub returns-in-Some : goal.returns-in-Some
returns-in-Some c = λ h. printed_string c.args.value.now c.in-Some.rest.now c.in-Some.ensures (sym c.is_empty.ensures ∙ h)
