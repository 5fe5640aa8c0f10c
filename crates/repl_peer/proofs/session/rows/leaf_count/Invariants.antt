use Rattle.proof_prelude.proofs.{◌≡◌, ◌-◌, ◌^◌, min, length, take, sum_by}
use Rattle.repl_peer.proofs.session.rows.leaf_count.Given as goal

-- the count so far
abbrev pub invariant-loop-row : goal.invariant-loop-row
invariant-loop-row l = l.count ≡ min (sum_by (λ row. length row.leaves) (take l.row-index l.rows)) (2 ^ 64 - 1)
