use Rattle.proof_prelude.proofs.{◌≡◌, slice_get}
use Rattle.diagrams.specs.Branches.{end_at}
use Rattle.diagrams.proofs.ancestries.Ancestries.owner.Given as goal

abbrev pub invariant-loop-parent : goal.invariant-loop-parent
invariant-loop-parent l = slice_get (end_at l.self.branches.entries l.owner) l.index ≡ slice_get (end_at l.self.branches.entries l.branch) l.index

abbrev pub decreases-loop-parent : goal.decreases-loop-parent
decreases-loop-parent l = l.owner
