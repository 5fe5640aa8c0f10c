use Rattle.proof_prelude.proofs.{◌≡◌, ◌<◌, List, length}
use Rattle.rev_core.specs.{RevId}
use Rattle.rev_tree.specs.{is_above_at, IsTold}
use Rattle.rev_tree.proofs.{generation_at}
use Rattle.rev_tree.proofs.nodes.Nodes.tell.Given as goal

-- the result is that of the current node
abbrev pub invariant-walk : goal.invariant-walk
invariant-walk l = record {
  told : (revs : List RevId) → IsTold l.self.items revs l.fn.told.items → l.answer ≡ is_above_at l.self.items revs l.fn.start → IsTold l.self.items revs l.told.items;
  same : (revs : List RevId) → IsTold l.self.items revs l.fn.told.items → l.answer ≡ is_above_at l.self.items revs l.fn.start → l.answer ≡ is_above_at l.self.items revs l.at;
  within : l.at < length l.self.items;
  size : length l.told.items ≡ length l.self.items;
}

abbrev pub decreases-walk : goal.decreases-walk
decreases-walk l = generation_at l.self.items l.at
