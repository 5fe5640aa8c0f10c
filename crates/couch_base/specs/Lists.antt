-- Properties of lists.
use Rattle.std.specs.Prelude.{◌≡◌, ◌⊎◌, ℕ, ◌<◌, ◌≤◌, Bool, false, List, [], ◌∷◌}
use Rattle.std.specs.List.{list_any}

-- The statement that x is an element of a list.
abbrev pub Among : {X : Type 0} → X → List X → Type 0
Among x [] = ⊥
Among x (y ∷ ys) = (x ≡ y) ⊎ Among x ys

-- The numbers of a list rise, are above `lo`, and are at most `hi`.
abbrev pub Rises : ℕ → List ℕ → ℕ → Type 0
Rises lo [] hi = lo ≤ hi
Rises lo (n ∷ ns) hi = (lo < n) × Rises n ns hi

-- No element of a list is equal to a later element of the list.
abbrev pub EachOnce : {X : Type 0} → (X → X → Bool) → List X → Type 0
EachOnce eq [] = Unit {0}
EachOnce eq (x ∷ xs) = (list_any (eq x) xs ≡ false) × EachOnce eq xs
