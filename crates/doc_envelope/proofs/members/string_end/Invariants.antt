-- The bytes so far belong to the string.
use Rattle.proof_prelude.proofs.{◌≡◌, ◌+◌, ◌-◌, ◌≤◌, ℕ, drop, length}
use Rattle.doc_envelope.specs.{Quoted, length_in}
use Rattle.doc_envelope.proofs.members.string_end.Given as goal

abbrev pub invariant-loop-at : goal.invariant-loop-at
invariant-loop-at l = record {
  same : (n : ℕ) → length_in Quoted n (drop l.from l.text) + l.from ≡ length_in Quoted n (drop l.at l.text) + l.at;
  behind : l.from ≤ l.at;
  within : l.at ≤ length l.text;
}

abbrev pub decreases-loop-at : goal.decreases-loop-at
decreases-loop-at l = length l.text - l.at
