-- What is unwrapped of the remaining members after the text so far is what is unwrapped of all.
use Rattle.proof_prelude.proofs.{length}
use Rattle.doc_envelope.specs.{made_of}
use Rattle.doc_envelope.proofs.TakeFronts.{Unfolds}
use Rattle.doc_envelope.proofs.envelope.Envelope.begin_unfold.Given as goal

abbrev pub invariant-loop-member : goal.invariant-loop-member
invariant-loop-member l = Unfolds l.beginning (made_of l.self) l.rest

abbrev pub decreases-loop-member : goal.decreases-loop-member
decreases-loop-member l = length l.rest
