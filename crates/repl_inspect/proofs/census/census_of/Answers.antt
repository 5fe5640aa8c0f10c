use Rattle.proof_prelude.proofs.{◌++◌, List, map, None, sym, ap, ◌∙◌, append-nil}
use Rattle.couch_base.specs.{tree_of, RowValue, WindowValue, chosen_feed, feed-page, feed-none}
use Rattle.repl_inspect.specs.{census_of}
use Rattle.repl_inspect.proofs.{mapped_on, trees_all}
use Rattle.repl_inspect.proofs.census.census_of.Goals as goal

pub loop-since-preserved : goal.loop-since-preserved
loop-since-preserved c =
    let db = c.args.database.now in
    let goal = c.update_seq-goal.result in
    let since = c.loop-since.since in
    let i = c.loop-since.invariant in
    let w = c.in_ok-page.page in
    let page = feed-page db since goal 1000 None c.update_seq-goal.ensures.law ∙ ap (λ (x : WindowValue). x.rows ++ chosen_feed None db x.hi goal) (sym c.in_ok-page.ensures) in (
      i.0 ++ map (λ (r : RowValue). tree_of db.docs r.id) w.rows,
      c.in_ok-add_rows.ensures i.0 i.1 ∙ ap (λ (rows : List RowValue). census_of (i.0 ++ map (λ (r : RowValue). tree_of db.docs r.id) rows)) c.rows.ensures.value,
      ap (λ n. (i.0 ++ map (λ (r : RowValue). tree_of db.docs r.id) w.rows) ++ map (λ (r : RowValue). tree_of db.docs r.id) (chosen_feed None db n goal)) c.hi-since.ensures.value
          ∙ mapped_on (λ (r : RowValue). tree_of db.docs r.id) i.0 w.rows (chosen_feed None db w.hi goal) (chosen_feed None db since goal) page
          ∙ i.2,
    )

pub returns : goal.returns
returns c =
    let db = c.args.database.now in
    let goal = c.update_seq-goal.result in
    let i = c.loop-since.invariant in
    i.1
    ∙ ap census_of
    (sym (append-nil i.0) ∙ ap (λ (rows : List RowValue). i.0 ++ map (λ (r : RowValue). tree_of db.docs r.id) rows) (sym (feed-none db c.loop-since.since goal None c.loop-since-test.false)) ∙ i.2
    ∙ ap (λ n. map (λ (r : RowValue). tree_of db.docs r.id) (chosen_feed None db 0 n)) c.update_seq-goal.ensures.seq
    ∙ trees_all db c.update_seq-goal.ensures.law)
