use Rattle.proof_prelude.proofs.{refl}
use Rattle.doc_json.proofs.{none_plain}
use Rattle.doc_json.proofs.read.read_doc.Goals as goal

pub document_of-requires : goal.document_of-requires
document_of-requires c κs = ((refl, tt), (tt, none_plain _))
