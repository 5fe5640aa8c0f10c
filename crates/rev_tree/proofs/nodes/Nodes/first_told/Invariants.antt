use Rattle.proof_prelude.proofs.{◌≡◌, ◌<◌, List, length}
use Rattle.rev_core.specs.{RevId}
use Rattle.rev_tree.specs.{is_above_at, IsTold}
use Rattle.rev_tree.proofs.{generation_at}
use Rattle.rev_tree.proofs.nodes.Nodes.first_told.Given as goal

-- the result at the current index is that at the start
abbrev pub invariant-walk : goal.invariant-walk
invariant-walk l = record {
  same : (revs : List RevId) → IsTold l.self.items revs l.told → is_above_at l.self.items revs l.at ≡ is_above_at l.self.items revs l.fn.start;
  within : l.at < length l.self.items;
}

abbrev pub decreases-walk : goal.decreases-walk
decreases-walk l = generation_at l.self.items l.at
