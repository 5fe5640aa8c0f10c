use Rattle.proof_prelude.proofs.{◌≡◌, ◌++◌, List, refl, sym, ap, subst, ◌∙◌, append_assoc, option_copied, flat_map}
use Rattle.doc_json.specs.{Choice}
use Rattle.couch_base.specs.{RowValue, WindowValue, chosen_feed, feed-page}
use Rattle.read_commands.specs.{rows_left}
use Rattle.command_api.proofs.{texts_step}
use Rattle.read_commands.proofs.feed.step.Goals as goal

pub returns-clause-text : goal.returns-clause-text
returns-clause-text g c =
    let P = g.P.RowPrinter in
    let db = c.args.database.now in
    let walk = c.args.walk.now in
    let since = walk.since in
    let chosen = walk.chosen in
    let h = option_copied c.as_ref-chosen.result in
    let same : h ≡ chosen = c.as_ref-chosen.ensures.value in
    let goal = c.update_seq-goal.result in
    let at : goal ≡ db.update_seq = c.update_seq-goal.ensures.seq in
    let w = c.in_ok-page.page in
    let page = feed-page db since goal c.scan_limit.result h c.update_seq-goal.ensures.law ∙ ap (λ (x : WindowValue). x.rows ++ chosen_feed h db x.hi goal) (sym c.in_ok-page.ensures) in
    let rest = chosen_feed chosen db c.hi-walk.result db.update_seq in
    let whole : rows_left db walk ≡ w.rows ++ rest = ap (λ n. chosen_feed chosen db since n) (sym at) ∙ ap (λ (x : Choice). chosen_feed x db since goal) (sym same) ∙ page ∙ ap (λ (x : Choice). w.rows ++ chosen_feed x db w.hi goal) same ∙ ap (λ n. w.rows ++ chosen_feed chosen db w.hi n) at ∙ ap (λ n. w.rows ++ chosen_feed chosen db n db.update_seq) (sym c.hi-walk.ensures.value) in
    let text = c.args.piece.now.items in
    let new = c.push_rows.new.piece.items in
    let f = P.row_text c.args.printer.now in
    texts_step f text new (text ++ flat_map f (rows_left db walk)) w.rows rest (rows_left db walk) (sym whole) refl (c.in_ok-push_rows.ensures.text ∙ ap (λ (rows : List RowValue). text ++ flat_map f rows) c.rows.ensures.value)

pub returns-clause-counted : goal.returns-clause-counted
returns-clause-counted g c =
    let P = g.P.RowPrinter in
    let db = c.args.database.now in
    let walk = c.args.walk.now in
    let since = walk.since in
    let chosen = walk.chosen in
    let h = option_copied c.as_ref-chosen.result in
    let same : h ≡ chosen = c.as_ref-chosen.ensures.value in
    let goal = c.update_seq-goal.result in
    let at : goal ≡ db.update_seq = c.update_seq-goal.ensures.seq in
    let w = c.in_ok-page.page in
    let page = feed-page db since goal c.scan_limit.result h c.update_seq-goal.ensures.law ∙ ap (λ (x : WindowValue). x.rows ++ chosen_feed h db x.hi goal) (sym c.in_ok-page.ensures) in
    let rest = chosen_feed chosen db c.hi-walk.result db.update_seq in
    let whole : rows_left db walk ≡ w.rows ++ rest = ap (λ n. chosen_feed chosen db since n) (sym at) ∙ ap (λ (x : Choice). chosen_feed x db since goal) (sym same) ∙ page ∙ ap (λ (x : Choice). w.rows ++ chosen_feed x db w.hi goal) same ∙ ap (λ n. w.rows ++ chosen_feed chosen db w.hi n) at ∙ ap (λ n. w.rows ++ chosen_feed chosen db n db.update_seq) (sym c.hi-walk.ensures.value) in
    λ earlier k. (earlier ++ w.rows, subst (P.counts c.args.printer.now c.push_rows.new.tally) (ap (λ (rows : List RowValue). earlier ++ rows) c.rows.ensures.value) (c.in_ok-push_rows.ensures.counted earlier k), append_assoc earlier w.rows rest ∙ ap (λ l. earlier ++ l) (sym whole))
