-- What is unwrapped of the remaining members after the text so far is what is unwrapped of all.
use Rattle.proof_prelude.proofs.{◌≡◌, [], ◌∷◌, drop, length}
use Rattle.doc_envelope.specs.{members_in, all_taken, made_of}
use Rattle.doc_envelope.specs.Members.{Outside}
use Rattle.doc_envelope.proofs.envelope.Envelope.unfold.Given as goal

abbrev pub invariant-loop-rest : goal.invariant-loop-rest
invariant-loop-rest l = all_taken (made_of l.self) (members_in Outside 0 [] l.rest) ≡ all_taken (123 ∷ []) (members_in Outside 0 [] (drop 1 l.document))

abbrev pub decreases-loop-rest : goal.decreases-loop-rest
decreases-loop-rest l = length l.rest
