-- Lemmas about three properties of lists: at least one element passes a test, all elements pass a test, and the list
-- has no duplicates.
use Rattle.std.specs.Prelude.{◌≡◌, ℕ, Bool, true, false, ◌||◌, List, [], ◌∷◌, ◌++◌, map, filter, refl}
use Rattle.std.proofs.Common.{ap, ◌∙◌}
use Rattle.std.proofs.lemmas.Bool.{or_right, cond_both, or_parts, and_from, or_left, or_from}
use Rattle.std.proofs.lemmas.Slice.Eq.{bytes_eq-Decides}
use Rattle.std.proofs.lemmas.List.Folds.{list_any-append, list_all-append}
use Rattle.std.specs.Str.{bytes_eq}
use Rattle.std.specs.List.{list_any, list_all, AllByRecursion}
-- Crates that use `couch_base` cite lemmas of the standard library by the names `both_false`, `some_is` and
-- `none_some`.
pub use Rattle.std.proofs.lemmas.Bool.{or_parts as both_false}
pub use Rattle.std.proofs.lemmas.Option.{same_Some as some_is, none-some as none_some}
use Rattle.rev_core.specs.Rev.{RevId}
use Rattle.rev_core.specs.RevOrder.{rev_tie_self}
use Rattle.rev_core.specs.Ancestry.{is_among}
use Rattle.couch_base.specs.Lists.{EachOnce}

-- ---- ids

-- If `bytes_eq` returns true for two ids, the ids are equal.
pub id_is : (a b : List ℕ) → bytes_eq a b ≡ true → a ≡ b
id_is a b h = (bytes_eq-Decides a b).0 h

pub id_same : (a : List ℕ) → bytes_eq a a ≡ true
id_same a = (bytes_eq-Decides a a).1 refl

-- ---- some element

pub any_left : {X : Type 0} (p : X → Bool) (xs ys : List X) → list_any p xs ≡ true → list_any p (xs ++ ys) ≡ true
any_left p xs ys h = list_any-append p xs ys ∙ or_left _ _ h

pub any_right : {X : Type 0} (p : X → Bool) (xs ys : List X) → list_any p ys ≡ true → list_any p (xs ++ ys) ≡ true
any_right p xs ys h = list_any-append p xs ys ∙ or_right _ _ h

pub none_append : {X : Type 0} (p : X → Bool) (xs ys : List X) → list_any p xs ≡ false → list_any p ys ≡ false → list_any p (xs ++ ys) ≡ false
none_append p xs ys h k = list_any-append p xs ys ∙ or_from _ _ h k

pub none_filter : {X : Type 0} (q p : X → Bool) (xs : List X) → list_any q xs ≡ false → list_any q (filter p xs) ≡ false
none_filter q p [] h = h
none_filter q p (x ∷ xs) h =
    let parts = or_parts (q x) (list_any q xs) h in
    cond_both (p x) (x ∷ filter p xs) (filter p xs) (λ l. list_any q l ≡ false)
    (λ _. ap (λ b. b || list_any q (filter p xs)) parts.0 ∙ none_filter q p xs parts.1)
    (λ _. none_filter q p xs parts.1)

-- ---- all elements

pub all_append : {X : Type 0} (p : X → Bool) (xs ys : List X) → list_all p xs ≡ true → list_all p ys ≡ true → list_all p (xs ++ ys) ≡ true
all_append p xs ys h k = list_all-append p xs ys ∙ and_from _ _ h k

-- If p is true for f(x) whenever q is true for x, then p is true for every element of `map f (filter q xs)`.
pub all_made : {X Y : Type 0} (p : Y → Bool) (f : X → Y) (q : X → Bool) → ((x : X) → q x ≡ true → p (f x) ≡ true) → (xs : List X) → list_all p (map f (filter q xs)) ≡ true
all_made p f q h [] = refl
all_made p f q h (x ∷ xs) =
    cond_both (q x) (x ∷ filter q xs) (filter q xs) (λ l. list_all p (map f l) ≡ true)
    (λ passes. and_from _ _ (h x passes) (all_made p f q h xs))
    (λ _. all_made p f q h xs)

-- If each revision of the list `revs` satisfies p, `list_all p revs` is true.
pub all_members : (p : RevId → Bool) (revs : List RevId) → ((r : RevId) → is_among r revs ≡ true → p r ≡ true) → list_all p revs ≡ true
all_members p [] h = refl
all_members p (r ∷ revs) h = and_from _ _ (h r (ap (λ b. b || is_among r revs) (rev_tie_self r))) (all_members p revs (λ x m. h x (or_right _ _ m)))

-- ---- no duplicates

pub each_filter : {X : Type 0} (eq : X → X → Bool) (p : X → Bool) (xs : List X) → EachOnce eq xs → EachOnce eq (filter p xs)
each_filter eq p [] h = tt
each_filter eq p (x ∷ xs) h =
    cond_both (p x) (x ∷ filter p xs) (filter p xs) (λ l. EachOnce eq l)
    (λ _. (none_filter (eq x) p xs h.0, each_filter eq p xs h.1))
    (λ _. each_filter eq p xs h.1)

pub each_append : {X : Type 0} (eq : X → X → Bool) (xs ys : List X) → EachOnce eq xs → EachOnce eq ys → AllByRecursion (λ x. list_any (eq x) ys ≡ false) xs → EachOnce eq (xs ++ ys)
each_append eq [] ys h k apart = k
each_append eq (x ∷ xs) ys h k apart = (none_append (eq x) xs ys h.0 apart.0, each_append eq xs ys h.1 k apart.1)
