use Rattle.proof_prelude.proofs.{arith}
use Rattle.diagrams.specs.declared.form.Form.TheVariants.{Svg}
use Rattle.diagrams.specs.{leaf_sign}
use Rattle.diagrams.proofs.{rows_more}
use Rattle.diagrams.proofs.svg.draw_rows.Goals as goal

pub loop-i-preserved : goal.loop-i-preserved
loop-i-preserved c =
    rows_more (leaf_sign Svg) _ _ _ c.args.leaves.now c.loop-i.i c.index-leaves-i.result (omega arith) c.index-leaves-i.is c.loop-i.invariant
    c.in_ok-draw_row.ensures
