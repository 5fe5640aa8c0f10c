-- If the rest is a list of strings and its closing brackets, so is the text.
use Rattle.proof_prelude.proofs.{length}
use Rattle.doc_envelope.specs.Printed.{AreIds}
use Rattle.doc_envelope.proofs.printing.are_ids.Given as goal

abbrev pub invariant-loop-more : goal.invariant-loop-more
invariant-loop-more l = AreIds l.rest → AreIds l.text

abbrev pub decreases-loop-more : goal.decreases-loop-more
decreases-loop-more l = length l.rest
