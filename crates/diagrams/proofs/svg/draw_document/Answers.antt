use Rattle.proof_prelude.proofs.{List, [], ◌∷◌, map, subst, string_bytes}
use Rattle.diagrams.specs.{Leaf, Draws, Sign, leaf_sign, title}
use Rattle.diagrams.specs.declared.form.Form.TheVariants.{Svg}
use Rattle.diagrams.proofs.{drawn_plain, drawn_then}
use Rattle.diagrams.proofs.svg.draw_document.Goals as goal

pub returns : goal.returns
returns c =
    let id = string_bytes c.args.document.now.id in
    let leaves : List Sign = map (leaf_sign Svg) c.as_slice-leaves.result.now in
    let rows = drawn_then _ _ _ (title Svg id ∷ []) leaves c.in_ok-draw_head.ensures c.in_ok-draw_rows.ensures in
    subst (λ (ls : List Leaf). Draws c.args.out.now.items c.mark.new.out.items (title Svg id ∷ map (leaf_sign Svg) ls))
    c.as_slice-leaves.ensures.value (drawn_plain _ _ _ (title Svg id ∷ leaves) rows c.in_ok-mark.ensures.draws)
