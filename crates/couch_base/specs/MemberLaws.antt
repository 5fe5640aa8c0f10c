-- Lemmas about the elements of concatenated lists and of mapped lists, and about elements that pass a test.
use Rattle.std.proofs.Common.{◌≡◌, ◌⊎◌, List, [], ◌∷◌, ◌++◌, Bool, true, false, cond, Some, map, refl, sym, ap, ◌∙◌, inl, inr}
use Rattle.std.specs.List.{find, list_any, list_all, AllByRecursion}
use Rattle.std.proofs.lemmas.Bool.{or_left, or_right, or_cases, and_parts, false≢true}
use Rattle.std.proofs.lemmas.Option.{same_Some, none-some}
use Rattle.couch_base.specs.Lists.{Among}
-- Crates that use `couch_base` cite two lemmas about list indexes by the names `at-append` and `at-end`.
pub use Rattle.rev_tree.proofs.Places.{slice_get-append as at-append, slice_get-last as at-end}

-- ---- concatenated and mapped lists

pub Among-left : {X : Type 0} (x : X) (xs ys : List X) → Among x xs → Among x (xs ++ ys)
Among-left x [] ys m = absurd m
Among-left x (y ∷ xs) ys (inl e) = inl e
Among-left x (y ∷ xs) ys (inr m) = inr (Among-left x xs ys m)

pub Among-last : {X : Type 0} (x : X) (xs : List X) → Among x (xs ++ x ∷ [])
Among-last x [] = inl refl
Among-last x (y ∷ xs) = inr (Among-last x xs)

-- If x is an element of the list `xs ++ y ∷ []`, then x is an element of the list xs, or x is y.
pub Among-push : {X : Type 0} (x : X) (xs : List X) (y : X) → Among x (xs ++ y ∷ []) → Among x xs ⊎ (x ≡ y)
Among-push x [] y (inl e) = inr e
Among-push x [] y (inr m) = absurd m
Among-push x (z ∷ xs) y (inl e) = inl (inl e)
Among-push x (z ∷ xs) y (inr m) = elim (Among-push x xs y m) [ inl a ↦ inl (inr a) | inr b ↦ inr b ]

pub Among-map : {X Y : Type 0} (f : X → Y) (y : Y) (xs : List X) → Among y (map f xs) → (x : X) × Among x xs × (y ≡ f x)
Among-map f y [] m = absurd m
Among-map f y (x ∷ xs) (inl e) = (x, inl refl, e)
Among-map f y (x ∷ xs) (inr m) = let k = Among-map f y xs m in (k.0, inr k.1, k.2)

pub Among-mapped : {X Y : Type 0} (f : X → Y) (x : X) (xs : List X) → Among x xs → Among (f x) (map f xs)
Among-mapped f x [] m = absurd m
Among-mapped f x (y ∷ xs) (inl e) = inl (ap f e)
Among-mapped f x (y ∷ xs) (inr m) = inr (Among-mapped f x xs m)

-- ---- tests

-- If `list_any p xs` is true, the list xs has an element that passes the test p.
pub any_member : {X : Type 0} (p : X → Bool) (xs : List X) → list_any p xs ≡ true → (x : X) × Among x xs × (p x ≡ true)
any_member p [] h = absurd (false≢true h)
any_member p (x ∷ xs) h =
    elim (or_cases (p x) (list_any p xs) h) [
      | inl here ↦ (x, inl refl, here)
      | inr later ↦ let k = any_member p xs later in (k.0, inr k.1, k.2)
    ]

pub any_from : {X : Type 0} (p : X → Bool) (x : X) (xs : List X) → Among x xs → p x ≡ true → list_any p xs ≡ true
any_from p x [] m e = absurd m
any_from p x (y ∷ xs) (inl i) e = or_left _ _ (ap p (sym i) ∙ e)
any_from p x (y ∷ xs) (inr m) e = or_right _ _ (any_from p x xs m e)

pub all_member : {X : Type 0} (p : X → Bool) (x : X) (xs : List X) → list_all p xs ≡ true → Among x xs → p x ≡ true
all_member p x [] h m = absurd m
all_member p x (y ∷ xs) h (inl e) = ap p e ∙ (and_parts _ _ h).0
all_member p x (y ∷ xs) h (inr m) = all_member p x xs (and_parts _ _ h).1 m

pub found_member : {X : Type 0} (p : X → Bool) (xs : List X) (x : X) → find p xs ≡ Some x → Among x xs × (p x ≡ true)
found_member p [] x e = absurd (none-some x e)
found_member p (y ∷ xs) x e = step (λ h. found_member p xs x h) (p y) refl e
  where
    step : (find p xs ≡ Some x → Among x xs × (p x ≡ true)) → (b : Bool) → p y ≡ b → cond b (Some y) (find p xs) ≡ Some x → Among x (y ∷ xs) × (p x ≡ true)
    step later true h e = let i : x ≡ y = sym (same_Some y x e) in (inl i, ap p i ∙ h)
    step later false h e = let k = later e in (inr k.0, k.1)

-- ---- properties of each element

pub each_member : {X : Type 0} (P : X → Type 0) (x : X) (xs : List X) → AllByRecursion P xs → Among x xs → P x
each_member P x [] h m = absurd m
each_member P x (y ∷ xs) h (inl e) = rw e h.0
each_member P x (y ∷ xs) h (inr m) = each_member P x xs h.1 m

pub each_push : {X : Type 0} (P : X → Type 0) (xs : List X) (y : X) → AllByRecursion P xs → P y → AllByRecursion P (xs ++ y ∷ [])
each_push P [] y h k = (k, tt)
each_push P (x ∷ xs) y h k = (h.0, each_push P xs y h.1 k)
