use Rattle.proof_prelude.proofs.{codes, sym, ◌∙◌, bytes_eq-Decides}
use Rattle.doc_envelope.proofs.{printed_deleted}
use Rattle.doc_envelope.proofs.printing.is_deleted.Goals as goal

pub returns : goal.returns
returns c = λ h. printed_deleted c.args.member.now ((bytes_eq-Decides c.args.member.now (codes "\"_deleted\":true")).0 (sym c.is.ensures ∙ h))
