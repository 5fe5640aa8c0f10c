use Rattle.proof_prelude.proofs.{take}
use Rattle.rev_tree.proofs.{IsAsked}
use Rattle.rev_tree.proofs.nodes.Nodes.asked.Given as goal

-- the results for the revisions so far are stored
abbrev pub invariant-loop-rev : goal.invariant-loop-rev
invariant-loop-rev l = IsAsked l.self.items l.revs (take l.rev-index l.revs) l.told.items
