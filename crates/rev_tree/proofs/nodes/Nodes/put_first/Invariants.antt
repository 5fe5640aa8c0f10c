use Rattle.proof_prelude.proofs.{◌≡◌, ◌≤◌, take, drop, length}
use Rattle.rev_tree.specs.{count_blocks, revs_in, tree_of}
use Rattle.rev_tree.proofs.{IsPut}
use Rattle.rev_tree.proofs.nodes.Nodes.put_first.Given as goal

-- only the first revisions have nodes
abbrev pub invariant-loop-i : goal.invariant-loop-i
invariant-loop-i l = record {
  put : IsPut (tree_of l.fn.self.items) l.self l.revs l.fn.content l.i l.child;
  revs : revs_in l.self.items ≡ take l.i l.revs;
  blocks : count_blocks (drop l.i l.revs) ≤ length l.blocks.items;
}
