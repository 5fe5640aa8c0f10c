use Rattle.proof_prelude.proofs.{subst, length}
use Rattle.rev_tree.proofs.{IsScanned, all_scanned, only_leaves}
use Rattle.rev_tree.proofs.stored.Stored.only_leaves_have_contents.Goals as goal

pub returns : goal.returns
returns c = record {
  only = λ _. only_leaves c.args.self.now.items c.all-node-items.ensures.linked
      (subst (λ l. IsScanned l (length l)) c.all-node-items.ensures.items (all_scanned _ _ c.loop-node-test.false c.loop-node.invariant));
}
