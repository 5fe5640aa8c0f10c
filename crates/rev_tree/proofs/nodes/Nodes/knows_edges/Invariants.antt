use Rattle.proof_prelude.proofs.{◌≡◌, ◌-◌, ◌&&◌, drop, slice_get, Some, list_all}
use Rattle.rev_core.specs.{RevId, edges_of}
use Rattle.rev_tree.specs.{has_edge, first_contradiction, place_of, tree_of}
use Rattle.rev_tree.proofs.nodes.Nodes.knows_edges.Given as goal

-- the remaining edges decide the rest; `place` is the index of the previous revision
abbrev pub invariant-loop-i : goal.invariant-loop-i
invariant-loop-i l = record {
  edges : (l.all && list_all (has_edge (tree_of l.self.items)) (edges_of (drop (l.i - 1) l.revs))) ≡ list_all (has_edge (tree_of l.self.items)) (edges_of l.revs);
  none : first_contradiction (tree_of l.self.items).parents (edges_of l.revs) ≡ first_contradiction (tree_of l.self.items).parents (edges_of (drop (l.i - 1) l.revs));
  place : (r : RevId) → slice_get l.revs (l.i - 1) ≡ Some r → l.place ≡ place_of l.self.items r;
}
