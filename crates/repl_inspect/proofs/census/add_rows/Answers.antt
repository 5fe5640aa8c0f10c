use Rattle.proof_prelude.proofs.{◌++◌, ◌∷◌, [], map, take, List, ap, ◌∙◌, take_all}
use Rattle.rev_tree.specs.{TreeValue}
use Rattle.couch_base.specs.{tree_of, RowValue}
use Rattle.repl_inspect.specs.{census_of}
use Rattle.repl_inspect.proofs.{mapped_more}
use Rattle.repl_inspect.proofs.census.add_rows.Goals as goal

pub loop-row-preserved : goal.loop-row-preserved
loop-row-preserved c = λ earlier from.
    let docs = c.args.database.now.docs in
    let so_far = earlier ++ map (λ (r : RowValue). tree_of docs r.id) (take c.loop-row.row-index c.args.rows.now) in
    c.in_ok-add.ensures.ok so_far (c.loop-row.invariant earlier from)
    ∙ ap (λ (x : TreeValue). census_of (so_far ++ x ∷ [])) (c.tree_or.ensures ∙ ap (tree_of docs) c.id.ensures)
    ∙ ap census_of (mapped_more (λ (r : RowValue). tree_of docs r.id) earlier c.args.rows.now c.loop-row.row-index c.row-item.result c.loop-row-test.true c.row-item.is)

pub returns : goal.returns
returns c = λ earlier from.
    c.loop-row.invariant earlier from
    ∙ ap (λ (rows : List RowValue). census_of (earlier ++ map (λ (r : RowValue). tree_of c.args.database.now.docs r.id) rows)) (take_all c.loop-row.row-index c.args.rows.now c.loop-row-test.false)
