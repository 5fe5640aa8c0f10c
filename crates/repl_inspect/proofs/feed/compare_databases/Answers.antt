use Rattle.proof_prelude.proofs.{◌++◌, List, sym, ap, ◌∙◌, append-nil, option_copied}
use Rattle.couch_base.specs.{RowValue, WindowValue, chosen_feed, feed-page, feed-none}
use Rattle.repl_inspect.specs.{compared_at, comparisons, total_of}
use Rattle.repl_inspect.proofs.{mapped_on}
use Rattle.repl_inspect.proofs.feed.compare_databases.Goals as goal

pub loop-since-preserved : goal.loop-since-preserved
loop-since-preserved c =
    let s = c.args.source.now in
    let t = c.args.target.now in
    let h = option_copied c.args.chosen in
    let goal = c.update_seq-goal.result in
    let since = c.loop-since.since in
    let i = c.loop-since.invariant in
    let w = c.in_ok-page.page in
    let page = feed-page s since goal 1000 h c.update_seq-goal.ensures.law ∙ ap (λ (x : WindowValue). x.rows ++ chosen_feed h s x.hi goal) (sym c.in_ok-page.ensures) in (
      i.0 ++ comparisons s t w.rows,
      c.in_ok-add_rows.ensures i.0 i.1 ∙ ap (λ (rows : List RowValue). total_of (i.0 ++ comparisons s t rows)) c.rows.ensures.value,
      ap (λ n. (i.0 ++ comparisons s t w.rows) ++ comparisons s t (chosen_feed h s n goal)) c.hi-since.ensures.value
          ∙ mapped_on (λ (r : RowValue). compared_at s t r.id) i.0 w.rows (chosen_feed h s w.hi goal) (chosen_feed h s since goal) page
          ∙ i.2,
    )

pub returns : goal.returns
returns c =
    let s = c.args.source.now in
    let t = c.args.target.now in
    let h = option_copied c.args.chosen in
    let goal = c.update_seq-goal.result in
    let i = c.loop-since.invariant in
    i.1
    ∙ ap total_of
    (sym (append-nil i.0) ∙ ap (λ rows. i.0 ++ comparisons s t rows) (sym (feed-none s c.loop-since.since goal h c.loop-since-test.false)) ∙ i.2)
    ∙ ap (λ n. total_of (comparisons s t (chosen_feed h s 0 n))) c.update_seq-goal.ensures.seq
