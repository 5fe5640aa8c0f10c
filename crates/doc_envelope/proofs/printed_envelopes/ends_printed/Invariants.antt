-- If the text from the position on ends as printed, so does the whole text.
use Rattle.proof_prelude.proofs.{◌-◌, ◌≤◌, length, drop}
use Rattle.doc_envelope.specs.Printed.{EndsPrinted}
use Rattle.doc_envelope.proofs.printed_envelopes.ends_printed.Given as goal

abbrev pub invariant-loop-at : goal.invariant-loop-at
invariant-loop-at l = record {
  ends : EndsPrinted (drop l.at l.text) → EndsPrinted l.text;
  within : l.at ≤ length l.text;
}

abbrev pub decreases-loop-at : goal.decreases-loop-at
decreases-loop-at l = length l.text - l.at
