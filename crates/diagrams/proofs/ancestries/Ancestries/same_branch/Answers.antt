use Rattle.proof_prelude.proofs.{sym, subst}
use Rattle.diagrams.specs.Branches.{Follows}
use Rattle.diagrams.proofs.BranchLemmas.{follows_in}
use Rattle.diagrams.proofs.ancestries.Ancestries.same_branch.Goals as goal

pub returns-then-has_at : goal.returns-then-has_at
returns-then-has_at c =
    let bs = c.args.self.now.branches.entries in
    subst (λ at. Follows bs at c.args.rev.now c.in-Some.point.branch) (sym c.in-Some.is)
    (follows_in bs c.args.self.now.linked c.in-Some.point c.args.rev.now (c.has_at.ensures c.if-has_at.true))
