use Rattle.proof_prelude.proofs.{[], ◌∷◌}
use Rattle.diagrams.specs.declared.form.Form.TheVariants.{Svg}
use Rattle.diagrams.specs.{leaf_sign}
use Rattle.diagrams.proofs.{then_by}
use Rattle.diagrams.proofs.svg.draw_row.Goals as goal

pub returns : goal.returns
returns c =
    then_by c.draw_leaf.result _ _ _ [] (leaf_sign Svg c.args.leaf.now ∷ [])
    c.in_ok-draw_cells.ensures
    c.draw_leaf.ensures
