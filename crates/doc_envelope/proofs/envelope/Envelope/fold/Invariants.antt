-- The remaining members will make of the texts so far what all members make.
use Rattle.proof_prelude.proofs.{◌≡◌, [], ◌∷◌, drop, length}
use Rattle.doc_envelope.specs.{HasPrintedFront, members_in, texts_with, helds_by, made_of, held_of}
use Rattle.doc_envelope.specs.Members.{Outside}
use Rattle.doc_envelope.proofs.envelope.Envelope.fold.Given as goal

abbrev pub invariant-loop-rest : goal.invariant-loop-rest
invariant-loop-rest l = record {
  made : texts_with (made_of l.self) (members_in Outside 0 [] l.rest) ≡ texts_with (123 ∷ []) (members_in Outside 0 [] (drop 1 l.document));
  held : helds_by (held_of l.self) (members_in Outside 0 [] l.rest) ≡ helds_by [] (members_in Outside 0 [] (drop 1 l.document));
  printed : HasPrintedFront l.self;
}

abbrev pub decreases-loop-rest : goal.decreases-loop-rest
decreases-loop-rest l = length l.rest
