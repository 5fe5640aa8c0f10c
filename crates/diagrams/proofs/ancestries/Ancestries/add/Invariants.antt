use Rattle.diagrams.proofs.BranchLemmas.{HasAdded}
use Rattle.diagrams.proofs.ancestries.Ancestries.add.Given as goal

abbrev pub invariant-loop-i : goal.invariant-loop-i
invariant-loop-i l = HasAdded l.initial.self.branches.entries l.self.branches.entries l.revs l.i l.at
