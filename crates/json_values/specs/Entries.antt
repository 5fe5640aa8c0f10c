-- Defines the list of members that a reader of a JSON object has read: names with values, in the order of the names.
use Rattle.std.specs.Prelude.{◌≡◌, ℕ, List, [], ◌∷◌, ◌++◌, map, take, drop, Some, slice_get, slice_set}
use Rattle.std.specs.Borrow.{Bor}
use Rattle.std.specs.BTreeMap.{insert_entry}
use Rattle.std.specs.Ordering.{nat_cmp}
use Rattle.std.specs.Cmp.Lexicographic.{slice_cmp}
use Rattle.std.specs.List.Sorted.{IsStrictlySortedBy}

abbrev pub Entry : Type 0 → Type 0
Entry T = Bor (List ℕ) × T

abbrev pub names_of : {T : Type 0} → List (Entry T) → List (List ℕ)
names_of es = map (λ e. e.0.now) es

-- Each name in a list of members is less than the following names.
abbrev pub IsRising : {T : Type 0} → List (Entry T) → Type 0
IsRising es = IsStrictlySortedBy (slice_cmp nat_cmp) (names_of es)

-- The members of an object after setting the member named k to the value v. If the object has a member of this name
-- already, that member keeps its position and gets the new value.
abbrev pub put_entry : {T : Type 0} → Bor (List ℕ) → T → List (Entry T) → List (Entry T)
put_entry k v es = insert_entry (λ a b. slice_cmp nat_cmp a.now b.now) es k v

-- If the list of members es has an element at index i, `put_entry` with the name k replaces this element's value.
abbrev pub IsPlaceOf : {T : Type 0} → List ℕ → List (Entry T) → ℕ → Type 0
IsPlaceOf {T} k es i = (name : Bor (List ℕ)) → name.now ≡ k → (v : T) → (e : Entry T) → slice_get es i ≡ Some e → put_entry name v es ≡ slice_set es i (e.0, v)

-- A new member named k must be inserted at index i, so that the members stay in the order of their names.
abbrev pub IsGapFor : {T : Type 0} → List ℕ → List (Entry T) → ℕ → Type 0
IsGapFor {T} k es i = (name : Bor (List ℕ)) → name.now ≡ k → (v : T) → put_entry name v es ≡ take i es ++ (name, v) ∷ drop i es

-- The name k comes after the names of all members of the list.
abbrev pub ComesLast : {T : Type 0} → List ℕ → List (Entry T) → Type 0
ComesLast {T} k es = (name : Bor (List ℕ)) → name.now ≡ k → (v : T) → put_entry name v es ≡ es ++ (name, v) ∷ []

-- The list `new` is the list `old` after moving its last member to index i.
abbrev pub MovesLast : {T : Type 0} → List (Entry T) → ℕ → List (Entry T) → Type 0
MovesLast {T} old i new = (es : List (Entry T)) (last : Entry T) → old ≡ es ++ last ∷ [] → new ≡ take i es ++ last ∷ drop i es
