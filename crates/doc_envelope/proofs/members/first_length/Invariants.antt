-- The bytes so far belong to the member.
use Rattle.proof_prelude.proofs.{◌≡◌, ◌+◌, ◌-◌, ◌≤◌, drop, length}
use Rattle.doc_envelope.specs.{Outside, length_in}
use Rattle.doc_envelope.proofs.members.first_length.Given as goal

abbrev pub invariant-loop-at : goal.invariant-loop-at
invariant-loop-at l = record {
  same : length_in Outside 0 l.text ≡ length_in Outside l.nesting (drop l.at l.text) + l.at;
  few : l.nesting ≤ l.at;
  within : l.at ≤ length l.text;
}

abbrev pub decreases-loop-at : goal.decreases-loop-at
decreases-loop-at l = length l.text - l.at
