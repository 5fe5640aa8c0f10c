use Rattle.proof_prelude.proofs.{[], ◌∷◌, List, ℕ, subst, string_bytes}
use Rattle.diagrams.specs.declared.form.Form.TheVariants.{Svg}
use Rattle.diagrams.specs.{Draws, title}
use Rattle.diagrams.proofs.{drawn_then, plain_by}
use Rattle.diagrams.proofs.svg.draw_head.Goals as goal

pub returns : goal.returns
returns c =
    let id = string_bytes c.args.document.now.id in
    let named = subst (λ (t : List ℕ). Draws c.mark-2.new.out.items c.title.new.out.items (title Svg t ∷ [])) c.as_str.ensures.value c.in_ok-title.ensures in
    plain_by c.mark-3.result _ _ _ (title Svg id ∷ [])
    (drawn_then _ _ _ [] (title Svg id ∷ []) (drawn_then _ _ _ [] [] (drawn_then _ _ _ [] [] c.in_ok-mark.ensures.draws c.in_ok-number.ensures.draws) c.in_ok-mark-2.ensures.draws) named)
    c.mark-3.ensures.draws
