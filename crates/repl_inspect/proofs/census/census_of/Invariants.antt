-- The counts are those of the documents so far, and the documents above `since` remain.
use Rattle.proof_prelude.proofs.{◌≡◌, ◌++◌, ◌-◌, List, map, None}
use Rattle.rev_tree.specs.{TreeValue}
use Rattle.couch_base.specs.{tree_of, chosen_feed}
use Rattle.repl_inspect.specs.{census_of}
use Rattle.repl_inspect.proofs.census.census_of.Given as goal

abbrev pub invariant-loop-since : goal.invariant-loop-since
invariant-loop-since l =
    (earlier : List TreeValue) × (l.census ≡ census_of earlier)
    × (earlier ++ map (λ r. tree_of l.database.docs r.id) (chosen_feed None l.database l.since l.goal) ≡ map (λ r. tree_of l.database.docs r.id) (chosen_feed None l.database 0 l.goal))

abbrev pub decreases-loop-since : goal.decreases-loop-since
decreases-loop-since l = l.goal - l.since
