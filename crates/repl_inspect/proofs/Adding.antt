-- Lists that grow row by row, and page by page.
use Rattle.proof_prelude.proofs.{◌≡◌, ℕ, ◌+◌, ◌<◌, List, [], ◌∷◌, ◌++◌, map, take, length, get_or, sym, ap, ◌∙◌, take_more, map-append, append_assoc}

-- one more element is mapped
pub mapped_more : {X Y : Type 0} (f : X → Y) (ys : List Y) (xs : List X) (i : ℕ) (x : X) → i < length xs → x ≡ get_or xs i x → (ys ++ map f (take i xs)) ++ f x ∷ [] ≡ ys ++ map f (take (i + 1) xs)
mapped_more f ys xs i x below is =
    append_assoc ys (map f (take i xs)) (f x ∷ [])
    ∙ ap (λ l. ys ++ l) (sym (map-append f (take i xs) (x ∷ [])) ∙ ap (map f) (ap (λ z. take i xs ++ z ∷ []) is ∙ sym (take_more xs i x below)))

-- some elements are mapped, and others remain
pub mapped_on : {X Y : Type 0} (f : X → Y) (ys : List Y) (xs rest all : List X) → all ≡ xs ++ rest → (ys ++ map f xs) ++ map f rest ≡ ys ++ map f all
mapped_on f ys xs rest all is = append_assoc ys (map f xs) (map f rest) ∙ ap (λ l. ys ++ l) (sym (map-append f xs rest) ∙ ap (map f) (sym is))
