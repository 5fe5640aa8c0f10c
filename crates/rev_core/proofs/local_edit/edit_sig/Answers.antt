use Rattle.proof_prelude.proofs.{◌≡◌, [], ◌∷◌, ◌++◌, ap, ◌∙◌, append_assoc}
use Rattle.md5.specs.Md5.{md5}
use Rattle.hex.specs.Hex.{encode_lower}
use Rattle.rev_core.specs.{edit_sig, parent_text}
use Rattle.rev_core.proofs.local_edit.edit_sig.Goals as goal

-- the pieces are hashed in order
pub returns : goal.returns
unfolding edit_sig
returns c =
    let before = c.as_slice.result.now in
    let kind = c.kind_text.result.now in
    let body = c.args.body.now in
    let held = c.update-5.ensures _ (c.update-4.ensures _ (c.update-3.ensures _ (c.update-2.ensures _ (c.update.ensures _ c.new-hasher.ensures)))) in
    let joined : (((([] ++ before) ++ 10 ∷ []) ++ kind) ++ 10 ∷ []) ++ body ≡ before ++ 10 ∷ (kind ++ 10 ∷ body) = simp append_assoc in
    let first : before ≡ parent_text c.args.parent = c.as_slice.ensures.value ∙ c.in_ok-before.ensures in
    c.digits.ensures ∙ ap encode_lower (c.finalize.ensures _ held)
    ∙ ap (λ t. encode_lower (md5 t)) (joined ∙ ap (λ t. t ++ 10 ∷ (kind ++ 10 ∷ body)) first ∙ ap (λ t. parent_text c.args.parent ++ 10 ∷ (t ++ 10 ∷ body)) c.kind_text.ensures)
