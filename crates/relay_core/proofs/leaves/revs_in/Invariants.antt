use Rattle.proof_prelude.proofs.{◌≡◌, ◌++◌, drop, filter}
use Rattle.relay_core.specs.Views.{texts_of}
use Rattle.relay_core.specs.LeafSets.{has_leaf}
use Rattle.relay_core.proofs.leaves.revs_in.Given as goal

abbrev pub invariant-loop-rev : goal.invariant-loop-rev
invariant-loop-rev l = texts_of l.kept.items ++ filter (λ r. has_leaf l.leaves.keys l.id r) (texts_of (drop l.rev-index l.rev-items)) ≡ filter (λ r. has_leaf l.leaves.keys l.id r) (texts_of l.rev-items)
