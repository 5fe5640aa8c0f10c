use Rattle.proof_prelude.proofs.{◌-◌, ◌≤◌, length, take, IsAscii}
use Rattle.json_values.proofs.utf8.is_ascii.Given as goal

abbrev pub invariant-loop-i : goal.invariant-loop-i
invariant-loop-i l = (l.i ≤ length l.bytes) × IsAscii (take l.i l.bytes)

abbrev pub decreases-loop-i : goal.decreases-loop-i
decreases-loop-i l = length l.bytes - l.i
