-- The mode of the scanner at the position is known.
use Rattle.proof_prelude.proofs.{◌≡◌, ◌-◌, ◌≤◌, length, drop}
use Rattle.doc_envelope.specs.{mode_after}
use Rattle.doc_envelope.specs.Members.{Outside}
use Rattle.doc_envelope.proofs.Modes.{mode_of}
use Rattle.doc_envelope.proofs.streaming.ends_quoted.Given as goal

abbrev pub invariant-loop-at : goal.invariant-loop-at
invariant-loop-at l = record {
  same : mode_after Outside l.text ≡ mode_after (mode_of l.quoted) (drop l.at l.text);
  within : l.at ≤ length l.text;
}

abbrev pub decreases-loop-at : goal.decreases-loop-at
decreases-loop-at l = length l.text - l.at
