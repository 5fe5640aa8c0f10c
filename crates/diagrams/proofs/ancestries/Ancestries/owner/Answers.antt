use Rattle.proof_prelude.proofs.{◌∙◌, sym}
use Rattle.diagrams.proofs.BranchLemmas.{climbed_at}
use Rattle.diagrams.proofs.ancestries.Ancestries.owner.Goals as goal

pub loop-parent-smaller : goal.loop-parent-smaller
loop-parent-smaller c = (c.args.self.now.linked c.loop-parent.owner c.in-Some.parent (sym c.in-Some.ensures)).earlier

pub loop-parent-preserved : goal.loop-parent-preserved
loop-parent-preserved c =
    climbed_at c.args.self.now.branches.entries c.args.self.now.linked c.loop-parent.owner c.args.index c.in-Some.parent (sym c.in-Some.ensures) c.if-parent-index.false
    ∙ c.loop-parent.invariant
