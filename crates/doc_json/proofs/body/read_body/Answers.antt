use Rattle.proof_prelude.proofs.{refl}
use Rattle.doc_json.proofs.{none_plain}
use Rattle.doc_json.proofs.body.read_body.Goals as goal

pub body_of-requires : goal.body_of-requires
body_of-requires c κs = ((refl, tt), (tt, none_plain _))
