use Rattle.proof_prelude.proofs.{◌≡◌, ◌++◌, ◌<◌, length}
use Rattle.rev_tree.specs.{ancestors_at}
use Rattle.rev_tree.proofs.{generation_at}
use Rattle.rev_tree.proofs.nodes.Nodes.walk.Given as goal

-- the traversal so far, and its rest
abbrev pub invariant-walk : goal.invariant-walk
invariant-walk l = record {
  walked : l.revs.items ++ ancestors_at l.self.items l.at ≡ ancestors_at l.self.items l.fn.start;
  within : l.at < length l.self.items;
}

abbrev pub decreases-walk : goal.decreases-walk
decreases-walk l = generation_at l.self.items l.at
