use Rattle.proof_prelude.proofs.{◌≡◌, ◌*◌, ◌^◌, ◌≤◌, length, take, sum_by}
use Rattle.pool_workers.proofs.messages.leaf_count.Given as goal

-- the count so far; each row has fewer than 2 ^ 64 leaves
abbrev pub invariant-loop-row : goal.invariant-loop-row
invariant-loop-row l = record {
  all : l.count ≡ sum_by (λ row. length row.leaves) (take l.row-index l.rows);
  fits : l.count ≤ l.row-index * 2 ^ 64;
}
