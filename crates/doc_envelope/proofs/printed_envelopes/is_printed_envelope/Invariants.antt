-- The members before the rest are printed.
use Rattle.proof_prelude.proofs.{length}
use Rattle.doc_envelope.proofs.PrintedEnvelopes.{IsFront}
use Rattle.doc_envelope.proofs.printed_envelopes.is_printed_envelope.Given as goal

abbrev pub invariant-loop-member : goal.invariant-loop-member
invariant-loop-member l = IsFront l.text l.rest

abbrev pub decreases-loop-member : goal.decreases-loop-member
decreases-loop-member l = length l.rest
