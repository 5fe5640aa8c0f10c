use Rattle.proof_prelude.proofs.{◌≡◌, take}
use Rattle.rev_tree.proofs.nodes.copy_nodes.Given as goal

-- the nodes copied so far
abbrev pub invariant-loop-node : goal.invariant-loop-node
invariant-loop-node l = l.copies.items ≡ take l.node-index l.nodes
