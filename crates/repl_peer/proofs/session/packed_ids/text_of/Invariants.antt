use Rattle.proof_prelude.proofs.{◌≡◌, take, flat_map}
use Rattle.couch_base.specs.{RowValue}
use Rattle.repl_peer.proofs.session.packed_ids.text_of.Given as goal

-- the ids so far
abbrev pub invariant-loop-row : goal.invariant-loop-row
invariant-loop-row l = l.text.items ≡ flat_map (λ (row : RowValue). row.id) (take l.row-index l.rows)
