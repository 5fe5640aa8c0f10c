use Rattle.proof_prelude.proofs.{[], ◌∷◌}
use Rattle.diagrams.specs.declared.form.Form.TheVariants.{Svg}
use Rattle.diagrams.specs.{leaf_sign}
use Rattle.diagrams.proofs.{drawn_then, then_by}
use Rattle.diagrams.proofs.svg.draw_leaf.Goals as goal

pub returns : goal.returns
returns c =
    then_by c.leaf_node.result _ _ _ [] (leaf_sign Svg c.args.leaf.now ∷ [])
    (drawn_then _ _ _ [] [] (drawn_then _ _ _ [] [] c.in_ok-mark.ensures.draws c.in_ok-draw_point.ensures) c.in_ok-mark-2.ensures.draws)
    c.leaf_node.ensures
