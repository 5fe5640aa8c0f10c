use Rattle.proof_prelude.proofs.{[], ◌∷◌, sym, subst, ◌∙◌, bytes_eq-Decides}
use Rattle.doc_envelope.specs.Printed.{BeginsWithString}
use Rattle.doc_envelope.proofs.printing.is_last_id.Goals as goal

pub returns-in-Some : goal.returns-in-Some
returns-in-Some c = λ h. subst (BeginsWithString c.args.text.now) ((bytes_eq-Decides c.in-Some.rest.now (93 ∷ 125 ∷ [])).0 (sym c.is.ensures ∙ h)) c.in-Some.ensures
