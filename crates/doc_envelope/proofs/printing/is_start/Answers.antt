use Rattle.proof_prelude.proofs.{subst}
use Rattle.json.specs.Print.{IsNumber}
use Rattle.doc_envelope.proofs.printing.is_start.Goals as goal

pub returns-in-Ok : goal.returns-in-Ok
returns-in-Ok c = λ h. record {
  utf8 = c.in-Ok.ensures.1;
  number = subst IsNumber c.in-Ok.ensures.0 (c.is_number.ensures.0 h);
}
