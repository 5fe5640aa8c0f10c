use Rattle.proof_prelude.proofs.{take, flat_map}
use Rattle.diagrams.specs.{Draws, edit_of}
use Rattle.diagrams.proofs.text.draw_edits_of.Given as goal

abbrev pub invariant-loop-i : goal.invariant-loop-i
invariant-loop-i l = Draws l.initial.out.items l.out.items (flat_map (edit_of l.db l.id) (take l.i l.leaves))
