-- Members of filtered or concatenated lists, and members by index.
use Rattle.proof_prelude.proofs.{◌≡◌, ◌⊎◌, ℕ, zero, suc, List, [], ◌∷◌, ◌++◌, filter, Bool, true, Some, slice_get, sym, ap, ◌∙◌, subst, inl, inr, eq_by_cmp, cond_both, both_ways, or_cases, or_left, or_right, false≢true}
use Rattle.rev_core.specs.{RevId, head_of, rev_cmp, rev_tie_is, rev_tie_self, is_among}
use Rattle.couch_base.specs.{Among, some_is, none_some}

pub Among-filter : {X : Type 0} (p : X → Bool) (x : X) (xs : List X) → Among x (filter p xs) → Among x xs × (p x ≡ true)
Among-filter p x [] m = absurd m
Among-filter p x (y ∷ xs) m =
    cond_both (p y) (y ∷ filter p xs) (filter p xs) (λ l. Among x l → Among x (y ∷ xs) × (p x ≡ true))
    (λ e k. elim k [ inl i ↦ (inl i, ap p i ∙ e) | inr n ↦ (let f = Among-filter p x xs n in (inr f.0, f.1)) ])
    (λ _ k. (let f = Among-filter p x xs k in (inr f.0, f.1)))
    m

pub Among-filtered : {X : Type 0} (p : X → Bool) (x : X) (xs : List X) → Among x xs → p x ≡ true → Among x (filter p xs)
Among-filtered p x [] m e = absurd m
Among-filtered p x (y ∷ xs) m e =
    cond_both (p y) (y ∷ filter p xs) (filter p xs) (λ l. Among x l)
    (λ _. elim m [ inl i ↦ inl i | inr n ↦ inr (Among-filtered p x xs n e) ])
    (λ no. elim m [ inl i ↦ absurd (both_ways _ no (ap p (sym i) ∙ e)) | inr n ↦ Among-filtered p x xs n e ])

pub Among-split : {X : Type 0} (x : X) (xs ys : List X) → Among x (xs ++ ys) → Among x xs ⊎ Among x ys
Among-split x [] ys m = inr m
Among-split x (y ∷ xs) ys (inl here) = inl (inl here)
Among-split x (y ∷ xs) ys (inr m) = elim (Among-split x xs ys m) [ inl left ↦ inl (inr left) | inr right ↦ inr right ]

pub Among-at : {X : Type 0} (xs : List X) (n : ℕ) (x : X) → slice_get xs n ≡ Some x → Among x xs
Among-at [] n x is = absurd (none_some x is)
Among-at (y ∷ xs) zero x is = inl (sym (some_is y x is))
Among-at (y ∷ xs) (suc n) x is = inr (Among-at xs n x is)

-- ---- revisions

pub among_test : (r : RevId) (xs : List RevId) → Among r xs → is_among r xs ≡ true
among_test r [] m = absurd m
among_test r (x ∷ xs) (inl e) = or_left _ _ (subst (λ y. eq_by_cmp rev_cmp r y ≡ true) e (rev_tie_self r))
among_test r (x ∷ xs) (inr m) = or_right _ _ (among_test r xs m)

pub among_from : (r : RevId) (xs : List RevId) → is_among r xs ≡ true → Among r xs
among_from r [] h = absurd (false≢true h)
among_from r (x ∷ xs) h = elim (or_cases _ _ h) [ inl tie ↦ inl (rev_tie_is r x tie) | inr later ↦ inr (among_from r xs later) ]

-- the newest revision of an ancestry is among its revisions
pub head_among : (revs : List RevId) (x r : RevId) → head_of revs ≡ Some x → x ≡ r → is_among r revs ≡ true
head_among [] x r h e = absurd (none_some x h)
head_among (y ∷ revs) x r h e = among_test r (y ∷ revs) (inl (sym (some_is y x h ∙ e)))
