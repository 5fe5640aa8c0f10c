use Rattle.proof_prelude.proofs.{◌≡◌, ℕ, ◌+◌, ◌≤◌, Some, drop, length, slice_get}
use Rattle.rev_core.specs.{RevId}
use Rattle.rev_tree.specs.{count_blocks, revs_in, tree_of}
use Rattle.rev_tree.proofs.{IsPut}
use Rattle.rev_tree.proofs.nodes.Nodes.put_among.Given as goal

-- the head is at its index, and each old revision at its own
abbrev pub invariant-loop-i : goal.invariant-loop-i
invariant-loop-i l = record {
  put : IsPut (tree_of l.fn.self.items) l.self l.revs l.fn.content l.i l.child;
  head : slice_get (revs_in l.self.items) l.head ≡ slice_get l.revs 0;
  kept : (i : ℕ) (r : RevId)
      → slice_get (revs_in l.fn.self.items) i ≡ Some r
      → slice_get (revs_in l.self.items) i ≡ Some r;
  most : l.i ≤ length l.revs;
  len : length l.self.items ≤ length l.fn.self.items + l.i;
  blocks : count_blocks (drop l.i l.revs) ≤ length l.blocks.items;
}
