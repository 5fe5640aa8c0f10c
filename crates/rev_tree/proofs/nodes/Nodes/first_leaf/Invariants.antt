use Rattle.proof_prelude.proofs.{◌≡◌, Some, take, filter, slice_get, option_copied}
use Rattle.rev_tree.specs.{in_order, is_leaf, leaf_cmp, NodeValue, revs_in, tree_of}
use Rattle.rev_tree.proofs.{IsBest}
use Rattle.rev_tree.proofs.nodes.Nodes.first_leaf.Given as goal

-- `best` is the first of the leaves so far, at its index
abbrev pub invariant-loop-i : goal.invariant-loop-i
invariant-loop-i l = record {
  best : IsBest (tree_of l.self.items) (in_order (leaf_cmp (tree_of l.self.items)) (filter (is_leaf (tree_of l.self.items)) (revs_in (take l.i l.nodes)))) (option_copied l.best);
  at : (n : NodeValue) → option_copied l.best ≡ Some n → slice_get l.nodes l.place ≡ Some n;
}
