use Rattle.proof_prelude.proofs.{List, ℕ, [], ◌∷◌, ◌++◌, map, subst, OnOk, option_map, string_bytes}
use Rattle.diagrams.specs.{Leaf, Draws, Sign, edits_of, leaf_sign, signs_of, title}
use Rattle.diagrams.specs.declared.form.Form.TheVariants.{Text}
use Rattle.diagrams.proofs.{drawn_plain, drawn_then, plain_by}
use Rattle.diagrams.proofs.text.draw_document.Goals as goal

pub returns : goal.returns
returns c =
    let db = option_map (λ s. s.now) c.args.db in
    let id = string_bytes c.args.document.now.id in
    let leaves = c.as_slice-leaves.result.now in
    let rows : List Sign = map (leaf_sign Text) leaves in
    let named = subst (λ (t : List ℕ). Draws c.args.out.now.items c.title.new.out.items (title Text t ∷ [])) c.as_str.ensures.value c.in_ok-title.ensures in
    let head = drawn_plain _ _ _ (title Text id ∷ []) named c.in_ok-mark.ensures.draws in
    let both = drawn_then _ _ _ (title Text id ∷ []) rows head c.in_ok-draw_rows.ensures in
    let ends = subst (λ (t : List ℕ). Draws c.draw_rows.new.out.items c.draw_edits.new.out.items (edits_of db t leaves)) c.as_str-2.ensures.value c.in_ok-draw_edits.ensures in
    let edits = drawn_then _ _ _ (title Text id ∷ rows) (edits_of db id leaves) both ends in
    subst (λ (ls : List Leaf). OnOk c.mark-2.result (Draws c.args.out.now.items c.mark-2.new.out.items (signs_of Text db id ls)))
    c.as_slice-leaves.ensures.value (plain_by c.mark-2.result _ _ _ (title Text id ∷ (rows ++ edits_of db id leaves)) edits c.mark-2.ensures.draws)
