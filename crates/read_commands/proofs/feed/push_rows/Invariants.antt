-- The rows so far have been printed and counted.
use Rattle.proof_prelude.proofs.{◌≡◌, ◌++◌, List, take, flat_map}
use Rattle.couch_base.specs.{RowValue}
use Rattle.read_commands.proofs.feed.push_rows.Given as goal

abbrev pub invariant-loop-row : goal.invariant-loop-row
invariant-loop-row g l =
    let P = g.P.RowPrinter in
    record {
      text : l.piece.items ≡ l.fn.piece.items ++ flat_map (P.row_text l.printer) (take l.row-index l.rows);
      counted : (earlier : List RowValue) → P.counts l.printer l.fn.tally earlier → P.counts l.printer l.tally (earlier ++ take l.row-index l.rows);
    }
