use Rattle.proof_prelude.proofs.{◌≡◌, ◌+◌, ◌-◌, ◌≤◌, length, drop, prefix_len}
use Rattle.json.specs.Run.{is_plain}
use Rattle.json_values.proofs.run.is_plain.Given as goal

abbrev pub invariant-loop-i : goal.invariant-loop-i
invariant-loop-i l =
    (prefix_len is_plain l.text ≡ l.i + prefix_len is_plain (drop l.i l.text)) × (l.i ≤ length l.text)

abbrev pub decreases-loop-i : goal.decreases-loop-i
decreases-loop-i l = length l.text - l.i
