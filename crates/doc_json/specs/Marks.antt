-- Defines a table with which a selection rejects most ids that are not selected, as described in
-- crates/doc_json/README.md, "Design notes".
use Rattle.std.specs.Prelude.{◌≡◌, ℕ, ◌+◌, ◌-◌, ◌*◌, ◌%◌, ◌<◌, Bool, true, false, List, [], ◌∷◌, length, drop, get_or}
use Rattle.std.specs.List.{AllByRecursion}

-- The hash of a string, computed byte by byte from the initial value n.
abbrev pub place_from : ℕ → List ℕ → ℕ
place_from n [] = n
place_from n (b ∷ bs) = place_from ((n * 31 + b) % 8192) bs

-- The index of an id in the table of selected ids, computed from the id's last eight bytes.
abbrev pub place_of : ℕ → List ℕ → ℕ
place_of places id = place_from 0 (drop (length id - 8) id) % places

-- Whether the table of selected ids has the value true for an id.
abbrev pub is_marked_of : ℕ → List Bool → List ℕ → Bool
is_marked_of places marks id = get_or marks (place_of places id) false

abbrev pub is_marked : List Bool → List ℕ → Bool
is_marked marks id = is_marked_of (length marks) marks id

-- The table `marks` is not empty, and its value for each id of the list `ids` is true.
pub record AreMarks (marks : List Bool) (ids : List (List ℕ)) : Type 0 where
  pub some : 0 < length marks
  pub each : AllByRecursion (λ id. is_marked marks id ≡ true) ids
