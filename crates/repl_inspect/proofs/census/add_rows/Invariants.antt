-- The documents of the rows so far are added.
use Rattle.proof_prelude.proofs.{◌≡◌, ◌++◌, List, map, take}
use Rattle.rev_tree.specs.{TreeValue}
use Rattle.couch_base.specs.{tree_of}
use Rattle.repl_inspect.specs.{census_of}
use Rattle.repl_inspect.proofs.census.add_rows.Given as goal

abbrev pub invariant-loop-row : goal.invariant-loop-row
invariant-loop-row l = (earlier : List TreeValue) → l.fn.census ≡ census_of earlier → l.census ≡ census_of (earlier ++ map (λ r. tree_of l.database.docs r.id) (take l.row-index l.rows))
