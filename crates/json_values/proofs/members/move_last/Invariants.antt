use Rattle.proof_prelude.proofs.{◌≡◌, ◌<◌, ◌≤◌, length}
use Rattle.json_values.specs.{MovesLast}
use Rattle.json_values.proofs.members.move_last.Given as goal

abbrev pub invariant-loop-i : goal.invariant-loop-i
invariant-loop-i g l =
    MovesLast l.initial.entries.items l.i l.entries.items × (l.place ≤ l.i) × (l.i < length l.entries.items) × (length l.entries.items ≡ length l.initial.entries.items)

abbrev pub decreases-loop-i : goal.decreases-loop-i
decreases-loop-i g l = l.i
