-- The count is within the text.
use Rattle.proof_prelude.proofs.{◌-◌, ◌≤◌, length}
use Rattle.doc_envelope.proofs.printing.comma.Given as goal

abbrev pub invariant-loop-count : goal.invariant-loop-count
invariant-loop-count l = l.count ≤ length l.text

abbrev pub decreases-loop-count : goal.decreases-loop-count
decreases-loop-count l = length l.text - l.count
