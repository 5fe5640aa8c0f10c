use Rattle.proof_prelude.proofs.{take}
use Rattle.diagrams.specs.{Draws, counts_of}
use Rattle.diagrams.proofs.lines.draw_counts.Given as goal

abbrev pub invariant-loop-i : goal.invariant-loop-i
invariant-loop-i l = Draws l.initial.out.items l.out.items (counts_of (take l.i l.columns) l.numbers)
