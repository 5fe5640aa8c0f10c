use Rattle.doc_envelope.specs.{made_of}
use Rattle.doc_envelope.proofs.{put_envelops}
use Rattle.doc_envelope.proofs.envelope.Envelope.put.Goals as goal

pub returns-in-Ok-clause-envelops : goal.returns-in-Ok-clause-envelops
returns-in-Ok-clause-envelops c = λ ms h. λ ok. put_envelops c.args.document.now ms (made_of c.envelop.new.self) c.in-Ok.made h c.in-Ok.ensures ok
