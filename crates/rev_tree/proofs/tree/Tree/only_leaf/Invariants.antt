use Rattle.proof_prelude.proofs.{◌≡◌, take, filter, option_copied, option_to_list}
use Rattle.rev_tree.specs.{is_leaf, revs_in}
use Rattle.rev_tree.proofs.tree.Tree.only_leaf.Given as goal

-- the leaves so far, at most one
abbrev pub invariant-loop-node : goal.invariant-loop-node
invariant-loop-node l = filter (is_leaf l.self) (revs_in (take l.node-index l.node-items)) ≡ option_to_list (option_copied l.found)
