use Rattle.proof_prelude.proofs.{◌≡◌, ℕ, ◌+◌, ◌<◌, length, slice_get}
use Rattle.rev_tree.specs.{ancestors_at}
use Rattle.rev_tree.proofs.nodes.Nodes.ancestor_at.Given as goal

-- the ancestors from the current index are the remaining ones
abbrev pub invariant-loop-i : goal.invariant-loop-i
invariant-loop-i l = record {
  within : l.at < length l.self.items;
  left : (k : ℕ) → slice_get (ancestors_at l.self.items l.at) k ≡ slice_get (ancestors_at l.self.items l.start) (l.i + k);
}
