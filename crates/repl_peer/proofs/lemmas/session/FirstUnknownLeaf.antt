-- The first unknown leaf of rows.
use Rattle.proof_prelude.proofs.{◌≡◌, ℕ, ◌+◌, ◌<◌, Bool, true, false, cond, not, ◌&&◌, List, [], ◌∷◌, ◌++◌, length, drop, get_or, Option, Some, None, is_some, refl, sym, ap, ◌∙◌, list_all, option_or, option_map, drop_more, find}
use Rattle.rev_core.specs.{RevId}
use Rattle.couch_base.specs.{Among, Id, RowValue, all_member}
use Rattle.repl_peer.specs.{Leaf, knows_row, unknown_in, first_unknown}

-- ---- the first unknown leaf

or_assoc : {X : Type 0} (o p q : Option X) → option_or o (option_or p q) ≡ option_or (option_or o p) q
or_assoc None p q = refl
or_assoc (Some x) p q = refl

pub first_unknown-append : (known : Id → RevId → Bool) (xs ys : List RowValue) → first_unknown known (xs ++ ys) ≡ option_or (first_unknown known xs) (first_unknown known ys)
first_unknown-append known [] ys = refl
first_unknown-append known (x ∷ xs) ys = ap (option_or (unknown_in known x)) (first_unknown-append known xs ys) ∙ or_assoc (unknown_in known x) (first_unknown known xs) (first_unknown known ys)

pub unknown_here : (known : Id → RevId → Bool) (rows : List RowValue) (i : ℕ) (row : RowValue) (u : Leaf) → i < length rows → row ≡ get_or rows i row → unknown_in known row ≡ Some u → first_unknown known (drop i rows) ≡ Some u
unknown_here known rows i row u h is so =
    ap (first_unknown known) (drop_more rows i row h ∙ ap (λ y. y ∷ drop (i + 1) rows) (sym is)) ∙ ap (λ o. option_or o (first_unknown known (drop (i + 1) rows))) so

leaf_known : (test : RevId → Bool) (f : RevId → Leaf) (leaves : List RevId) → not (is_some (option_map f (find (λ r. not (test r)) leaves))) ≡ list_all test leaves
leaf_known test f [] = refl
leaf_known test f (r ∷ leaves) = elim (test r) as (λ b. not (is_some (option_map f (cond (not b) (Some r) (find (λ r. not (test r)) leaves)))) ≡ (b && list_all test leaves)) [
  | true ↦ leaf_known test f leaves
  | false ↦ refl
]

-- each leaf is known if there is no first unknown one
pub rows_known : (known : Id → RevId → Bool) (rows : List RowValue) → not (is_some (first_unknown known rows)) ≡ list_all (knows_row known) rows
rows_known known [] = refl
rows_known known (row ∷ rows) =
    first_of_two (unknown_in known row) (first_unknown known rows)
    ∙ (λ i. leaf_known (known row.id) (λ rev. record { seq = row.seq; id = row.id; rev = rev }) row.leaves i && rows_known known rows i)
  where
    first_of_two : (o rest : Option Leaf) → not (is_some (option_or o rest)) ≡ (not (is_some o) && not (is_some rest))
    first_of_two None rest = refl
    first_of_two (Some u) rest = refl

pub none_unknown : (known : Id → RevId → Bool) (rows : List RowValue) → first_unknown known rows ≡ None → (row : RowValue) → Among row rows → (leaf : RevId) → Among leaf row.leaves → known row.id leaf ≡ true
none_unknown known rows none row held leaf k =
    all_member (known row.id) leaf row.leaves (all_member (knows_row known) row rows (sym (rows_known known rows) ∙ ap (λ o. not (is_some o)) none) held) k
