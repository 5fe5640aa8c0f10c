use Rattle.diagrams.proofs.PathLemmas.{added_next, extends_then, keeps_from}
use Rattle.diagrams.proofs.ancestries.Ancestries.add.Goals as goal

pub returns-in_err-branch-clause-keeps : goal.returns-in_err-branch-clause-keeps
returns-in_err-branch-clause-keeps c =
    keeps_from _ _ (extends_then _ _ _ c.loop-i.invariant.extends c.in_err-branch.ensures.extends)

pub loop-i-preserved : goal.loop-i-preserved
loop-i-preserved c =
    added_next _ _ _ _ _ c.loop-i.at c.in_ok-branch.branch c.loop-i.invariant c.in_ok-branch.ensures.extends c.loop-i-test.true c.in_ok-branch.ensures.follows

pub returns-clause-keeps : goal.returns-clause-keeps
returns-clause-keeps c = keeps_from _ _ c.loop-i.invariant.extends
