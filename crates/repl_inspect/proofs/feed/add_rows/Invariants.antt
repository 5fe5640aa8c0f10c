-- The rows so far are added to the total.
use Rattle.proof_prelude.proofs.{◌≡◌, ◌++◌, List, take}
use Rattle.repl_inspect.specs.{ComparisonValue, comparisons, total_of}
use Rattle.repl_inspect.proofs.feed.add_rows.Given as goal

abbrev pub invariant-loop-row : goal.invariant-loop-row
invariant-loop-row l = (earlier : List ComparisonValue) → l.fn.total ≡ total_of earlier → l.total ≡ total_of (earlier ++ comparisons l.source l.target (take l.row-index l.rows))
