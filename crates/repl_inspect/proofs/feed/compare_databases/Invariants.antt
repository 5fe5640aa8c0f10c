-- The total is that of the rows so far, and the rows above `since` remain.
use Rattle.proof_prelude.proofs.{◌≡◌, ◌++◌, ◌-◌, List, option_copied}
use Rattle.couch_base.specs.{chosen_feed}
use Rattle.repl_inspect.specs.{ComparisonValue, comparisons, total_of}
use Rattle.repl_inspect.proofs.feed.compare_databases.Given as goal

abbrev pub invariant-loop-since : goal.invariant-loop-since
invariant-loop-since l =
    (earlier : List ComparisonValue) × (l.total ≡ total_of earlier)
    × (earlier ++ comparisons l.source l.target (chosen_feed (option_copied l.chosen) l.source l.since l.goal) ≡ comparisons l.source l.target (chosen_feed (option_copied l.chosen) l.source 0 l.goal))

abbrev pub decreases-loop-since : goal.decreases-loop-since
decreases-loop-since l = l.goal - l.since
