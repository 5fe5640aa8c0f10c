use Rattle.proof_prelude.proofs.{◌++◌, List, take, sym, ap, subst, ◌∙◌, append-nil, take_all, flat_map}
use Rattle.couch_base.specs.{RowValue}
use Rattle.command_api.proofs.{rows_more, list_more}
use Rattle.read_commands.proofs.feed.push_rows.Goals as goal

pub loop-row-init : goal.loop-row-init
loop-row-init g c = record {
  text = sym (append-nil c.args.piece.now.items);
  counted = λ earlier h. subst (g.P.RowPrinter.counts c.args.printer.now c.args.tally.now) (sym (append-nil earlier)) h;
}

pub loop-row-preserved : goal.loop-row-preserved
loop-row-preserved g c =
    let P = g.P.RowPrinter in
    let rows = c.args.rows.now in
    let at = c.loop-row.row-index in
    let row = c.row-item.result in
    let i = c.loop-row.invariant in
    let f = P.row_text c.args.printer.now in
    record {
      text = c.in_ok-push_row.ensures.text ∙ ap (λ t. t ++ f row) i.text ∙ rows_more f c.args.piece.now.items rows at row c.loop-row-test.true c.row-item.is;
      counted = λ earlier h. subst (P.counts c.args.printer.now c.push_row.new.tally) (list_more earlier rows at row c.loop-row-test.true c.row-item.is) (c.in_ok-push_row.ensures.counted (earlier ++ take at rows) (i.counted earlier h));
    }

pub returns-clause-text : goal.returns-clause-text
returns-clause-text g c = c.loop-row.invariant.text ∙ ap (λ (rows : List RowValue). c.args.piece.now.items ++ flat_map (g.P.RowPrinter.row_text c.args.printer.now) rows) (take_all c.loop-row.row-index c.args.rows.now c.loop-row-test.false)

pub returns-clause-counted : goal.returns-clause-counted
returns-clause-counted g c = λ earlier h. subst (g.P.RowPrinter.counts c.args.printer.now c.loop-row.tally) (ap (λ (rows : List RowValue). earlier ++ rows) (take_all c.loop-row.row-index c.args.rows.now c.loop-row-test.false)) (c.loop-row.invariant.counted earlier h)
