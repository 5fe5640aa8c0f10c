use Rattle.proof_prelude.proofs.{◌≡◌, ◌≤◌, ℕ, List, ◌++◌, length, Bor, take, drop}
use Rattle.json_values.specs.{put_entry}
use Rattle.json_values.proofs.members.place_of.Given as goal

-- the member goes before those that were skipped
abbrev pub invariant-loop-end : goal.invariant-loop-end
invariant-loop-end g l =
    (l.end ≤ length l.entries) × ((name : Bor (List ℕ)) → name.now ≡ l.name → (v : g.row.T.Denot) → put_entry name v l.entries ≡ put_entry name v (take l.end l.entries) ++ drop l.end l.entries)

abbrev pub decreases-loop-end : goal.decreases-loop-end
decreases-loop-end g l = l.end
