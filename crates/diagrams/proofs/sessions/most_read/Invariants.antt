use Rattle.proof_prelude.proofs.{◌≡◌, drop}
use Rattle.diagrams.specs.{most_from}
use Rattle.diagrams.proofs.sessions.most_read.Given as goal

abbrev pub invariant-loop-i : goal.invariant-loop-i
invariant-loop-i l = most_from l.most (drop l.i l.entries) ≡ most_from 1 l.entries
