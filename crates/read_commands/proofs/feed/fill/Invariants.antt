-- The rows so far have been printed and counted, and those after the sequence are left.
use Rattle.proof_prelude.proofs.{◌≡◌, ◌++◌, ◌-◌, List, flat_map}
use Rattle.couch_base.specs.{RowValue}
use Rattle.read_commands.specs.{rows_left}
use Rattle.read_commands.proofs.feed.fill.Given as goal

abbrev pub invariant-loop-walk : goal.invariant-loop-walk
invariant-loop-walk g l =
    let P = g.P.RowPrinter in
    record {
      text : l.piece.items ++ flat_map (P.row_text l.printer) (rows_left l.database l.walk) ≡ l.fn.piece.items ++ flat_map (P.row_text l.printer) (rows_left l.database l.fn.walk);
      chosen : l.walk.chosen ≡ l.fn.walk.chosen;
      counted : (earlier : List RowValue) → P.counts l.printer l.fn.tally earlier → (later : List RowValue) × P.counts l.printer l.tally later × (later ++ rows_left l.database l.walk ≡ earlier ++ rows_left l.database l.fn.walk);
    }

abbrev pub decreases-loop-walk : goal.decreases-loop-walk
decreases-loop-walk g l = l.goal - l.walk.since
