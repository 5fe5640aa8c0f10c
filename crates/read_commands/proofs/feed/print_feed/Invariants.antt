-- The rows so far have been printed, and those after the sequence are left.
use Rattle.proof_prelude.proofs.{◌≡◌, ◌++◌, ◌-◌, flat_map}
use Rattle.read_commands.specs.{rows_left}
use Rattle.read_commands.proofs.feed.print_feed.Given as goal

abbrev pub invariant-loop-walk : goal.invariant-loop-walk
invariant-loop-walk g l =
    let P = g.P.RowPrinter in
    l.answer.items ++ flat_map (P.row_text l.printer) (rows_left l.database l.walk) ≡ l.fn.answer.items ++ flat_map (P.row_text l.printer) (rows_left l.database l.fn.walk)

abbrev pub decreases-loop-walk : goal.decreases-loop-walk
decreases-loop-walk g l = l.goal - l.walk.since
