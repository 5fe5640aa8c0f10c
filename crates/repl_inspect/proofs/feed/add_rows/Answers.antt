use Rattle.proof_prelude.proofs.{◌++◌, ◌∷◌, [], take, List, ap, ◌∙◌, take_all}
use Rattle.couch_base.specs.{RowValue}
use Rattle.repl_inspect.specs.{ComparisonValue, compared_at, comparisons, total_of}
use Rattle.repl_inspect.proofs.{mapped_more}
use Rattle.repl_inspect.proofs.feed.add_rows.Goals as goal

pub loop-row-preserved : goal.loop-row-preserved
loop-row-preserved c = λ earlier from.
    let s = c.args.source.now in
    let t = c.args.target.now in
    let so_far = earlier ++ comparisons s t (take c.loop-row.row-index c.args.rows.now) in
    c.add.ensures so_far (c.loop-row.invariant earlier from)
    ∙ ap (λ (x : ComparisonValue). total_of (so_far ++ x ∷ [])) (c.in_ok-comparison.ensures ∙ ap (compared_at s t) c.id.ensures)
    ∙ ap total_of (mapped_more (λ (r : RowValue). compared_at s t r.id) earlier c.args.rows.now c.loop-row.row-index c.row-item.result c.loop-row-test.true c.row-item.is)

pub returns : goal.returns
returns c = λ earlier from.
    c.loop-row.invariant earlier from
    ∙ ap (λ (rows : List RowValue). total_of (earlier ++ comparisons c.args.source.now c.args.target.now rows)) (take_all c.loop-row.row-index c.args.rows.now c.loop-row-test.false)
