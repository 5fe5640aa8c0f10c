use Rattle.proof_prelude.proofs.{[]}
use Rattle.diagrams.specs.{Draws}
use Rattle.diagrams.proofs.sheet.blanks.Given as goal

abbrev pub invariant-loop-turn : goal.invariant-loop-turn
invariant-loop-turn l = Draws l.initial.out.items l.out.items []
