use Rattle.proof_prelude.proofs.{ℕ, ◌≡◌, ◌<◌, ◌≤◌, get_or, length}
use Rattle.diagrams.specs.Rows.{open_hangs}
use Rattle.diagrams.proofs.rows.parent_of.Given as goal

abbrev pub invariant-loop-count : goal.invariant-loop-count
invariant-loop-count l =
    (l.count ≤ length l.open.items) × ((k : ℕ) → l.count ≤ k → k < length l.open.items → l.hang ≤ get_or (open_hangs l.open.items) k 0)

abbrev pub decreases-loop-count : goal.decreases-loop-count
decreases-loop-count l = l.count
