use Rattle.proof_prelude.proofs.{[], ◌∷◌}
use Rattle.diagrams.specs.declared.form.Form.TheVariants.{Text}
use Rattle.diagrams.specs.{leaf_sign}
use Rattle.diagrams.proofs.{drawn_then, then_by}
use Rattle.diagrams.proofs.text.draw_row.Goals as goal

pub returns : goal.returns
returns c =
    then_by c.draw_leaf.result _ _ _ [] (leaf_sign Text c.args.leaf.now ∷ [])
    (drawn_then _ _ _ [] [] c.in_ok-mark.ensures.draws c.in_ok-draw_cells.ensures)
    c.draw_leaf.ensures
