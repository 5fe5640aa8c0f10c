use Rattle.proof_prelude.proofs.{◌≡◌, ℕ, List, ◌++◌, ap, ◌∙◌, append_assoc, codes}
use Rattle.doc_json.specs.{revs_text, head_text, start_text, sig_texts}
use Rattle.doc_json.proofs.write.push_revs.Goals as goal

regroup : (o a b c d e f g : List ℕ) → ((((((o ++ a) ++ b) ++ c) ++ d) ++ e) ++ f) ++ g ≡ o ++ ((((((a ++ b) ++ c) ++ d) ++ e) ++ f) ++ g)
regroup o a b c d e f g = simp append_assoc

joined : (o a b c d e f g : List ℕ) {t u v w x y z : List ℕ} → t ≡ o ++ a → u ≡ t ++ b → v ≡ u ++ c → w ≡ v ++ d → x ≡ w ++ e → y ≡ x ++ f → z ≡ y ++ g
    → z ≡ o ++ ((((((a ++ b) ++ c) ++ d) ++ e) ++ f) ++ g)
joined o a b c d e f g t u v w x y z =
    z ∙ ap (λ s. s ++ g) (y ∙ ap (λ s. s ++ f) (x ∙ ap (λ s. s ++ e) (w ∙ ap (λ s. s ++ d) (v ∙ ap (λ s. s ++ c) (u ∙ ap (λ s. s ++ b) t))))) ∙ regroup o a b c d e f g

-- the pieces in order
pub returns-clause-text : goal.returns-clause-text
returns-clause-text c = unfold revs_text in
    let revs = c.args.ancestry.now in
    joined c.args.out.now.items (codes ",\"_rev\":\"") (head_text revs) (codes "\",\"_revisions\":{\"start\":") (start_text revs) (codes ",\"ids\":[") (sig_texts revs) (codes "]}")
    c.in_ok-extend_from_slice.ensures.items c.in_ok-push_head.ensures.text c.in_ok-extend_from_slice-2.ensures.items c.in_ok-push_start.ensures.text c.in_ok-extend_from_slice-3.ensures.items
    (c.in_ok-push_sigs.ensures.text ∙ ap (λ r. c.extend_from_slice-3.new.self.items ++ sig_texts r) c.revs.ensures.all) c.in_ok-extend_from_slice-4.ensures.items
