use Rattle.proof_prelude.proofs.{◌≡◌, ◌++◌, drop, map}
use Rattle.couch_base.specs.{live, row_by}
use Rattle.couch_base.proofs.paging.look_up.Given as goal

abbrev pub invariant-loop-row : goal.invariant-loop-row
invariant-loop-row l =
    l.rows.items ++ map (row_by l.table.entries) (live l.table.entries (drop l.row-index l.row-items)) ≡ map (row_by l.table.entries) (live l.table.entries l.row-items)
