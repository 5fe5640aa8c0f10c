-- Membership tests over lists of revisions.
use Rattle.proof_prelude.proofs.{◌≡◌, ℕ, ◌+◌, ◌-◌, ◌<◌, ◌≤◌, true, false, cond, Some, ◌||◌, List, [], ◌∷◌, length, get_or, drop, ap, sym, ◌∙◌, refl, arith, cond-true, cond-false, get_or_default, list_any, eq_by_cmp, eq_by_cmp_equiv}
use Rattle.std.specs.FinMap.{find}
use Rattle.rev_core.specs.{RevId, rev_cmp, rev_cmp_total, edges_of, edges_at}

same_turned : (a b : RevId) → eq_by_cmp rev_cmp a b ≡ eq_by_cmp rev_cmp b a
same_turned = (eq_by_cmp_equiv rev_cmp_total).symm

-- the test does not depend on the order of the compared revisions
pub list_any_turned : (r : RevId) (xs : List RevId) → list_any (λ x. eq_by_cmp rev_cmp x r) xs ≡ list_any (eq_by_cmp rev_cmp r) xs
list_any_turned r [] = refl
list_any_turned r (x ∷ xs) = λ i. same_turned x r i || list_any_turned r xs i

-- the edge at an index belongs to the revision
pub edge_found : (xs : List RevId) (i : ℕ) (a b rev : RevId) → 1 ≤ i → i < length xs → a ≡ get_or xs (i - 1) a → b ≡ get_or xs i b → eq_by_cmp rev_cmp a rev ≡ true → find rev_cmp rev (edges_of (drop (i - 1) xs)) ≡ Some b
edge_found xs i a b rev low high ia ib t =
    let n : i - 1 + 1 ≡ i = omega arith in
    ap (find rev_cmp rev) (edges_at xs (i - 1) a (omega arith))
    ∙ ap (λ k. cond (eq_by_cmp rev_cmp rev k) (Some (get_or xs (i - 1 + 1) a)) (find rev_cmp rev (edges_of (drop (i - 1 + 1) xs)))) (sym ia)
    ∙ cond-true _ _ _ (same_turned rev a ∙ t) ∙ ap (λ k. Some (get_or xs k a)) n ∙ ap Some (get_or_default xs i a b high ∙ sym ib)

-- the edge at an index does not belong to the revision
pub edge_passed : (xs : List RevId) (i : ℕ) (a rev : RevId) → 1 ≤ i → i < length xs → a ≡ get_or xs (i - 1) a → eq_by_cmp rev_cmp a rev ≡ false → find rev_cmp rev (edges_of (drop (i - 1) xs)) ≡ find rev_cmp rev (edges_of (drop (i + 1 - 1) xs))
edge_passed xs i a rev low high ia t =
    let n : i - 1 + 1 ≡ i + 1 - 1 = omega arith in
    ap (find rev_cmp rev) (edges_at xs (i - 1) a (omega arith))
    ∙ ap (λ k. cond (eq_by_cmp rev_cmp rev k) (Some (get_or xs (i - 1 + 1) a)) (find rev_cmp rev (edges_of (drop (i - 1 + 1) xs)))) (sym ia)
    ∙ cond-false _ _ _ (same_turned rev a ∙ t) ∙ ap (λ k. find rev_cmp rev (edges_of (drop k xs))) n
