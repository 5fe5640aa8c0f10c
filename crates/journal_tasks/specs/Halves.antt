-- Defines the two parts of an input, which the input's first empty line separates.
use Rattle.std.specs.Prelude.{ℕ, Bool, false, if◌then◌else◌, nat_eq, List, [], ◌∷◌, ◌++◌, length, map}
use Rattle.std.specs.List.{list_any}

abbrev pub is_empty_line : List ℕ → Bool
is_empty_line line = nat_eq (length line) 0

-- The lines of an input before the input's first empty line.
abbrev pub first_part : List (List ℕ) → List (List ℕ)
first_part [] = []
first_part (line ∷ lines) = if is_empty_line line then [] else line ∷ first_part lines

-- The lines of an input after the input's first empty line.
abbrev pub second_part : List (List ℕ) → List (List ℕ)
second_part [] = []
second_part (line ∷ lines) = if is_empty_line line then lines else second_part lines

-- Whether an input has a second part, that is, whether one of the input's lines is empty.
abbrev pub has_second_part : List (List ℕ) → Bool
has_second_part lines = list_any is_empty_line lines

-- For each line of an input, whether the line is wrong. The test `first` says which lines of the first part are wrong,
-- and `second` says which lines of the second part are wrong. The empty line that separates the input's two parts does
-- not count as wrong.
abbrev pub part_flags : (List ℕ → Bool) → (List ℕ → Bool) → List (List ℕ) → List Bool
part_flags first second lines =
    map first (first_part lines) ++ (if has_second_part lines then false ∷ map second (second_part lines) else [])
