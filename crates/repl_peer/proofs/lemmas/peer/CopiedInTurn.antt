-- Lists that are copied element by element.
use Rattle.proof_prelude.proofs.{◌≡◌, ℕ, ◌+◌, ◌<◌, List, [], ◌∷◌, ◌++◌, take, get_or, length, sym, ap, ◌∙◌, take_more}

-- one more element
pub one_more : {X : Type 0} (xs done : List X) (i : ℕ) (x : X) → i < length xs → x ≡ get_or xs i x → done ≡ take i xs → done ++ x ∷ [] ≡ take (i + 1) xs
one_more xs done i x lt is e = ap (λ ys. ys ++ x ∷ []) e ∙ ap (λ y. take i xs ++ y ∷ []) is ∙ sym (take_more xs i x lt)
