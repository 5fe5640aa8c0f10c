use Rattle.doc_envelope.specs.{made_of, printed_of}
use Rattle.doc_envelope.proofs.{front_same}
use Rattle.doc_envelope.proofs.envelope.Envelope.put_member.Goals as goal

pub returns-clause-printed : goal.returns-clause-printed
returns-clause-printed c = λ old. front_same c.hold.result (made_of c.args.self.now) (made_of c.hold.new.self) (printed_of c.args.self.now) (printed_of c.hold.new.self) old c.hold.ensures.printed c.hold.ensures.made
