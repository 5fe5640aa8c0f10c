use Rattle.proof_prelude.proofs.{map, take}
use Rattle.diagrams.specs.declared.form.Form.TheVariants.{Svg}
use Rattle.diagrams.specs.{Draws, leaf_sign}
use Rattle.diagrams.proofs.svg.draw_rows.Given as goal

abbrev pub invariant-loop-i : goal.invariant-loop-i
invariant-loop-i l = Draws l.initial.out.items l.out.items (map (leaf_sign Svg) (take l.i l.leaves))
