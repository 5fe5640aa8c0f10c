use Rattle.proof_prelude.proofs.{◌+◌, ◌++◌, map, take, sym, subst}
use Rattle.couch_base.specs.{AreMadeAll, leaf_document}
use Rattle.couch_base.proofs.{made_leaf, made_leaves}
use Rattle.couch_base.proofs.exchange.add_prepared.Goals as goal

pub returns-then-leaves-eq1 : goal.returns-then-leaves-eq1
returns-then-leaves-eq1 c = record {
  ok = λ docs made.
      subst (AreMadeAll (docs ++ map (leaf_document c.args.id.now c.args.tree.now) c.args.leaves.now)) (sym c.in_ok-push.ensures.items)
      (made_leaf c.args.id.now c.args.tree.now c.args.leaves.now docs c.args.made.now.items c.in_ok-shared.field-0 c.if-leaves-eq1.true c.requires.leaves made c.in_ok-shared.ensures);
}

pub loop-leaf-preserved : goal.loop-leaf-preserved
loop-leaf-preserved c docs made =
    subst (AreMadeAll (docs ++ map (leaf_document c.args.id.now c.args.tree.now) (take (c.loop-leaf.leaf-index + 1) c.args.leaves.now))) (sym c.in_ok-push-2.ensures.items)
    (made_leaves c.args.id.now c.args.tree.now c.args.leaves.now c.loop-leaf.leaf-index c.leaf-item.result docs c.loop-leaf.made.items c.loop-leaf-test.true c.leaf-item.is (c.loop-leaf.invariant docs made))
