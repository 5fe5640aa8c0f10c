use Rattle.proof_prelude.proofs.{◌+◌}
use Rattle.diagrams.proofs.BranchLemmas.{IsJoined}
use Rattle.diagrams.proofs.ancestries.Ancestries.joined.Given as goal

abbrev pub invariant-loop-one : goal.invariant-loop-one
invariant-loop-one l = IsJoined l.self.branches.entries l.fn.one l.fn.other l.one l.other l.count

abbrev pub decreases-loop-one : goal.decreases-loop-one
decreases-loop-one l = l.one + l.other
