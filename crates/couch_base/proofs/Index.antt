-- Lookups in the index, and its end.
use Rattle.proof_prelude.proofs.{◌≡◌, ℕ, ◌<◌, List, [], ◌∷◌, ◌++◌, Option, Some, None, Bool, true, false, cond, sym, ap, ◌∙◌, refl, arith, inl, inr, cond_both, cases_Bool, false_from_ne_true, nat_cmp, is_at, bytes_eq, none-some}
use Rattle.couch_base.specs.{Id, at_seq, feed_without, AllBelow, id_is}
use Rattle.couch_base.proofs.Found.{seq_is, seq_same, not_first}

keep_tail : (b : Bool) (a q : Id) (o p : Option Id) → (o ≡ Some q → p ≡ Some q) → cond b (Some a) o ≡ Some q → cond b (Some a) p ≡ Some q
keep_tail true a q o p f h = h
keep_tail false a q o p f h = f h

pub at_append : (s : ℕ) (index : List (ℕ × Id)) (x : ℕ × Id) (q : Id) → at_seq s index ≡ Some q → at_seq s (index ++ x ∷ []) ≡ Some q
at_append s [] x q h = absurd (none-some q h)
at_append s (e ∷ es) x q h = keep_tail (is_at (nat_cmp s) e.0) e.1 q (at_seq s es) (at_seq s (es ++ x ∷ [])) (at_append s es x q) h

pub at_new : (s : ℕ) (index : List (ℕ × Id)) (q : Id) → AllBelow s index → at_seq s (index ++ (s, q) ∷ []) ≡ Some q
at_new s [] q below = ap (λ b. cond b (Some q) None) (seq_same s)
at_new s (e ∷ es) q below =
    cond_both (is_at (nat_cmp s) e.0) (Some e.1) (at_seq s (es ++ (s, q) ∷ [])) (λ o. o ≡ Some q)
    (λ hit. let a : s ≡ e.0 = seq_is s e.0 hit in let b : e.0 < s = below e (inl refl) in absurd (omega (arith, a, b)))
    (λ _. at_new s es q (λ x m. below x (inr m)))

-- the entry at a sequence stays when another document is removed
pub at_without : (s : ℕ) (id : Id) (index : List (ℕ × Id)) (q : Id) → (q ≡ id → ⊥) → at_seq s index ≡ Some q → at_seq s (feed_without id index) ≡ Some q
at_without s id [] q apart h = h
at_without s id (e ∷ es) q apart h =
    elim (cases_Bool (bytes_eq e.1 id)) [
      | inl hit ↦
          rw hit
          (at_without s id es q apart (not_first (is_at (nat_cmp s) e.0) e.1 q (at_seq s es) h
          (false_from_ne_true (bytes_eq e.1 q) (λ t. apart (sym (id_is e.1 q t) ∙ id_is e.1 id hit)))))
      | inr miss ↦
          rw miss
          (keep_tail (is_at (nat_cmp s) e.0) e.1 q (at_seq s es) (at_seq s (feed_without id es)) (at_without s id es q apart) h)
    ]
