use Rattle.proof_prelude.proofs.{take, flat_map}
use Rattle.diagrams.specs.{Draws, signs_of_session}
use Rattle.diagrams.proofs.sessions.draw_sessions.Given as goal

abbrev pub invariant-loop-i : goal.invariant-loop-i
invariant-loop-i l = Draws l.initial.out.items l.out.items (flat_map (signs_of_session l.form l.most) (take l.i l.entries))
