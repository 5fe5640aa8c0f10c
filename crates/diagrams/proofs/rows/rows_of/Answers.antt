use Rattle.proof_prelude.proofs.{ap, arith, refl, sym}
use Rattle.diagrams.specs.{Leaf}
use Rattle.diagrams.proofs.OpenRows.{rows_next, rows_whole}
use Rattle.diagrams.proofs.rows.rows_of.Goals as goal

pub loop-i-preserved : goal.loop-i-preserved
loop-i-preserved c =
    rows_next c.args.ancestries.now c.args.leaves.now c.loop-i.i _ _ _ _ _ _ _ c.index-leaves-i.result c.in_ok-push-2.ensures.items c.in_ok-push.ensures.items
    c.loop-i.invariant c.parent_of-parent.ensures c.hang_of-hang.ensures (omega arith) c.index-leaves-i.is
    (ap (λ (leaf : Leaf). leaf.oldest) (sym c.index-leaves-i.is)) refl refl

pub returns-clause-rows : goal.returns-clause-rows
returns-clause-rows c =
    let edges = c.in_ok-set_edges.ensures in
    rows_whole c.args.ancestries.now c.args.leaves.now c.loop-i.i _ _ _ c.loop-i.invariant (omega arith) edges.hangs edges.parents edges.firsts edges.below
