use Rattle.rev_tree.proofs.{IsScanned}
use Rattle.rev_tree.proofs.stored.Stored.only_leaves_have_contents.Given as goal

-- the nodes so far
abbrev pub invariant-loop-node : goal.invariant-loop-node
invariant-loop-node l = IsScanned l.node-items l.node-index
