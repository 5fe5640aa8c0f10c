use Rattle.proof_prelude.proofs.{[]}
use Rattle.diagrams.specs.{Draws}
use Rattle.diagrams.proofs.svg.draw_cells.Given as goal

abbrev pub invariant-loop-i : goal.invariant-loop-i
invariant-loop-i l = Draws l.initial.out.items l.out.items []
