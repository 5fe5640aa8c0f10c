use Rattle.proof_prelude.proofs.{◌≡◌, ◌+◌, length}
use Rattle.relay_core.proofs.refusals.push_refused.Given as goal

abbrev pub invariant-loop-rev : goal.invariant-loop-rev
invariant-loop-rev l = length l.leaves.items ≡ length l.initial.leaves.items + l.rev-index
