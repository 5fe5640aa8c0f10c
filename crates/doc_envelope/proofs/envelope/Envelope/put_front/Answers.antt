use Rattle.doc_envelope.specs.{made_of, printed_of}
use Rattle.doc_envelope.proofs.{front_marked}
use Rattle.doc_envelope.proofs.envelope.Envelope.put_front.Goals as goal

pub returns-clause-printed : goal.returns-clause-printed
returns-clause-printed c = λ old.
    front_marked c.add.result (made_of c.args.self.now) (made_of c.add.new.self) c.args.member.now (printed_of c.args.self.now) c.still_printed-self.result (printed_of c.add.new.self) old c.still_printed-self.ensures
    c.add.ensures.printed c.add.ensures.made
