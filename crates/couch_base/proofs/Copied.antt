-- Lists that grow by the elements of another list, one at a time.
use Rattle.proof_prelude.proofs.{◌≡◌, ℕ, ◌+◌, ◌<◌, Bool, true, List, [], ◌∷◌, ◌++◌, length, get_or, take, map, zero, suc, sym, ap, ◌∙◌, append_assoc, arith, and_parts, take_more, map_more, list_all}

-- one more element
pub one_more : {X : Type 0} (xs done : List X) (i : ℕ) (x : X) → i < length xs → x ≡ get_or xs i x → done ≡ take i xs → done ++ x ∷ [] ≡ take (i + 1) xs
one_more xs done i x lt is e = ap (λ ys. ys ++ x ∷ []) e ∙ ap (λ y. take i xs ++ y ∷ []) is ∙ sym (take_more xs i x lt)

-- the elements made from one more element are appended
pub one_more_of : {X Y : Type 0} (f : X → Y) (xs : List X) (old now : List Y) (i : ℕ) (x : X) → i < length xs → x ≡ get_or xs i x → now ≡ old ++ map f (take i xs)
    → now ++ f x ∷ [] ≡ old ++ map f (take (i + 1) xs)
one_more_of f xs old now i x lt is e =
    ap (λ ys. ys ++ f x ∷ []) e
    ∙ append_assoc old (map f (take i xs)) (f x ∷ [])
    ∙ ap (λ ys. old ++ ys) (ap (λ y. map f (take i xs) ++ f y ∷ []) is ∙ sym (map_more f xs i x lt))

-- a property of all holds for each
pub all_at : {X : Type 0} (p : X → Bool) (xs : List X) (i : ℕ) (d : X) → i < length xs → list_all p xs ≡ true → p (get_or xs i d) ≡ true
all_at p [] i d lt e = absurd (omega arith)
all_at p (x ∷ xs) zero d lt e = (and_parts _ _ e).0
all_at p (x ∷ xs) (suc i) d lt e = all_at p xs i d (omega arith) (and_parts _ _ e).1
