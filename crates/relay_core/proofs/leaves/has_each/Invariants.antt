use Rattle.proof_prelude.proofs.{◌≡◌, drop, list_all}
use Rattle.relay_core.specs.Views.{texts_of}
use Rattle.relay_core.specs.LeafSets.{has_leaf}
use Rattle.relay_core.proofs.leaves.has_each.Given as goal

abbrev pub invariant-loop-rev : goal.invariant-loop-rev
invariant-loop-rev l = list_all (λ r. has_leaf l.leaves.keys l.id r) (texts_of (drop l.rev-index l.rev-items)) ≡ list_all (λ r. has_leaf l.leaves.keys l.id r) (texts_of l.rev-items)
