use Rattle.proof_prelude.proofs.{◌≡◌, ◌++◌, length, map, take, drop, flat_map}
use Rattle.couch_base.specs.{RowValue}
use Rattle.repl_peer.specs.{ends_from}
use Rattle.repl_peer.proofs.session.packed_ids.ends_of.Given as goal

-- the ends so far with the ends of the remaining rows, and the bytes so far
abbrev pub invariant-loop-row : goal.invariant-loop-row
invariant-loop-row l = record {
  ends : l.ends.items ++ ends_from l.end (map (λ (row : RowValue). row.id) (drop l.row-index l.rows)) ≡ ends_from 0 (map (λ (row : RowValue). row.id) l.rows);
  len : l.end ≡ length (flat_map (λ (row : RowValue). row.id) (take l.row-index l.rows));
}
