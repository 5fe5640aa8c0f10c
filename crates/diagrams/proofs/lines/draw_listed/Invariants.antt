use Rattle.proof_prelude.proofs.{map, take}
use Rattle.diagrams.specs.{Draws, listed}
use Rattle.diagrams.proofs.lines.draw_listed.Given as goal

abbrev pub invariant-loop-i : goal.invariant-loop-i
invariant-loop-i l = Draws l.initial.out.items l.out.items (map listed (take l.i l.revs))
