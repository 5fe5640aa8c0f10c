use Rattle.proof_prelude.proofs.{◌++◌, List, refl, sym, ap, ◌∙◌, append-nil, flat_map}
use Rattle.couch_base.specs.{RowValue, chosen_feed, feed-none}
use Rattle.read_commands.proofs.feed.print_feed.Goals as goal

pub loop-walk-init : goal.loop-walk-init
loop-walk-init g c = refl

pub loop-walk-preserved : goal.loop-walk-preserved
loop-walk-preserved g c = c.in_ok-step.ensures.text ∙ c.loop-walk.invariant

pub returns : goal.returns
returns g c =
    let db = c.args.database.now in
    let walk = c.loop-walk.walk in
    let text = c.loop-walk.answer.items in
    let none = ap (λ n. chosen_feed walk.chosen db walk.since n) (sym c.update_seq-goal.ensures.seq) ∙ feed-none db walk.since c.update_seq-goal.result walk.chosen c.loop-walk-test.false in
    sym (append-nil text)
    ∙ ap (λ (rows : List RowValue). text ++ flat_map (g.P.RowPrinter.row_text c.args.printer.now) rows) (sym none)
    ∙ c.loop-walk.invariant
