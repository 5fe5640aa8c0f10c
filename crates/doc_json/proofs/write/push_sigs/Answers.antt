use Rattle.proof_prelude.proofs.{◌≡◌, ℕ, List, Vec, Global, [], ◌∷◌, ◌++◌, take, get_or, sym, ap, ◌∙◌, arith, append_assoc, subst, take_all}
use Rattle.doc_json.specs.{Keeps, sig_text, sig_texts}
use Rattle.doc_json.proofs.{kept_if, kept_more, kept_then, sig_texts-more, sig_texts-first}
use Rattle.doc_json.proofs.write.push_sigs.Goals as goal
use Rattle.doc_json.proofs.write.push_sigs.Goals.{then-i-gt0+in_ok-push, else-i-gt0}

comma : (a b c : List ℕ) → ((a ++ b) ++ 44 ∷ []) ++ c ≡ a ++ (b ++ 44 ∷ c)
comma a b c = simp append_assoc

pub loop-i-preserved : goal.loop-i-preserved
loop-i-preserved c =
    let old = c.args.out.now.items in
    let revs = c.args.revs.now in
    let i = c.loop-i.i in
    let r = c.index-revs-i.result in
    let at : sig_text (get_or revs i r) ≡ sig_text r = ap sig_text (sym c.index-revs-i.is) in
    c.in_ok-push_sig.ensures.text
    ∙ elim c.if-i-gt0.branch [
      | then-i-gt0+in_ok-push w ↦
          ap (λ (v : Vec ℕ Global). v.items ++ sig_text r) w.out-is
          ∙ ap (λ t. t ++ sig_text r) (w.in_ok-push.ensures.items ∙ ap (λ t. t ++ 44 ∷ []) c.loop-i.invariant)
          ∙ comma old (sig_texts (take i revs)) (sig_text r)
          ∙ ap (λ t. old ++ t) (ap (λ t. sig_texts (take i revs) ++ 44 ∷ t) (sym at) ∙ sym (sig_texts-more revs i r (omega arith) (omega arith)))
      | else-i-gt0 w ↦
          ap (λ (v : Vec ℕ Global). v.items ++ sig_text r) w.out-is
          ∙ ap (λ t. t ++ sig_text r) c.loop-i.invariant
          ∙ append_assoc old (sig_texts (take i revs)) (sig_text r)
          ∙ ap (λ t. old ++ t) (ap (λ t. sig_texts (take i revs) ++ t) (sym at) ∙ sym (sig_texts-first revs i r (omega arith) (omega arith)))
    ]

pub returns-clause-text : goal.returns-clause-text
returns-clause-text c = c.loop-i.invariant ∙ ap (λ rs. c.args.out.now.items ++ sig_texts rs) (take_all c.loop-i.i c.args.revs.now (omega arith))

pub returns-clause-kept : goal.returns-clause-kept
returns-clause-kept c = kept_more _ _ _ c.loop-i.invariant

pub returns-in_err-push-clause-kept : goal.returns-in_err-push-clause-kept
returns-in_err-push-clause-kept c = kept_then _ _ _ (kept_more _ _ _ c.loop-i.invariant) (kept_if _ _ _ _ c.push.ensures.items)

pub returns-in_err-push_sig-clause-kept : goal.returns-in_err-push_sig-clause-kept
returns-in_err-push_sig-clause-kept c =
    let so_far = kept_more _ _ _ c.loop-i.invariant in
    kept_then _ _ _ (elim c.if-i-gt0.branch as (λ _. Keeps c.args.out.now.items c.if-i-gt0.out.items) [
      | then-i-gt0+in_ok-push w ↦ subst (λ (v : Vec ℕ Global). Keeps c.args.out.now.items v.items) (sym w.out-is) (kept_then _ _ _ so_far (kept_more _ _ _ w.in_ok-push.ensures.items))
      | else-i-gt0 w ↦ subst (λ (v : Vec ℕ Global). Keeps c.args.out.now.items v.items) (sym w.out-is) so_far
    ]) c.push_sig.ensures.kept
