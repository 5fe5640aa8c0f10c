-- The order of names with the same first byte, by their second bytes.
use Rattle.proof_prelude.proofs.{◌≡◌, ℕ, ◌<◌, List, [], ◌∷◌, length, get_or, Ordering, Less, Equal, Greater, nat_cmp, sym, ap, ◌∙◌, arith, ordering_then, nat_cmp_is, slice_cmp}

by_second : (x u y v : ℕ) (o rest : Ordering) → x ≡ y → nat_cmp u v ≡ o → ordering_then (nat_cmp x y) (ordering_then (nat_cmp u v) rest) ≡ ordering_then o rest
by_second x u y v o rest e is = ap (λ p. ordering_then p (ordering_then (nat_cmp u v) rest)) (sym (nat_cmp_is x y Equal e)) ∙ ap (λ p. ordering_then p rest) is

pub second_less : (xs ys : List ℕ) → 1 < length xs → 1 < length ys → get_or xs 0 0 ≡ get_or ys 0 0 → get_or xs 1 0 < get_or ys 1 0 → slice_cmp nat_cmp xs ys ≡ Less
second_less [] ys a b e l = absurd (omega arith)
second_less (x ∷ []) ys a b e l = absurd (omega arith)
second_less (x ∷ u ∷ xs) [] a b e l = absurd (omega arith)
second_less (x ∷ u ∷ xs) (y ∷ []) a b e l = absurd (omega arith)
second_less (x ∷ u ∷ xs) (y ∷ v ∷ ys) a b e l = by_second x u y v Less (slice_cmp nat_cmp xs ys) e (sym (nat_cmp_is u v Less l))

pub second_greater : (xs ys : List ℕ) → 1 < length xs → 1 < length ys → get_or xs 0 0 ≡ get_or ys 0 0 → get_or ys 1 0 < get_or xs 1 0 → slice_cmp nat_cmp xs ys ≡ Greater
second_greater [] ys a b e l = absurd (omega arith)
second_greater (x ∷ []) ys a b e l = absurd (omega arith)
second_greater (x ∷ u ∷ xs) [] a b e l = absurd (omega arith)
second_greater (x ∷ u ∷ xs) (y ∷ []) a b e l = absurd (omega arith)
second_greater (x ∷ u ∷ xs) (y ∷ v ∷ ys) a b e l = by_second x u y v Greater (slice_cmp nat_cmp xs ys) e (sym (nat_cmp_is u v Greater l))
