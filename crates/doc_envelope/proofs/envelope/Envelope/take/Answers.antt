use Rattle.doc_envelope.specs.{made_of}
use Rattle.doc_envelope.proofs.{take_gives_back}
use Rattle.doc_envelope.proofs.envelope.Envelope.take.Goals as goal

pub returns-in-Ok-clause-gives_back : goal.returns-in-Ok-clause-gives_back
returns-in-Ok-clause-gives_back c = λ fs ws os h others carries are. λ ok. take_gives_back c.args.document.now fs ws os h others carries are (made_of c.release.new.self) c.in-Ok.made c.in-Ok.ensures ok
