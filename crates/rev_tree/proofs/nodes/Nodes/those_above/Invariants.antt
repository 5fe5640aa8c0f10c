use Rattle.proof_prelude.proofs.{◌≡◌, take, filter}
use Rattle.rev_tree.specs.{tree_of, is_above_one, IsTold}
use Rattle.rev_tree.proofs.nodes.Nodes.those_above.Given as goal

-- those of the leaves so far that are above one of the revisions
abbrev pub invariant-loop-leaf : goal.invariant-loop-leaf
invariant-loop-leaf l = record {
  above : l.above.items ≡ filter (is_above_one (tree_of l.self.items) l.revs) (take l.leaf-index l.leaves);
  told : IsTold l.self.items l.revs l.told.items;
}
