-- This file defines which line of an input is the first line with a wrong form.
use Rattle.std.specs.Prelude.{ℕ, suc, Bool, if◌then◌else◌, nat_eq, List, [], ◌∷◌, length, Option, None, Some, option_map}
use Rattle.std.specs.Option.{option_or}

-- The index, counted from 0, of the first item of a list that passes a test, or `None` if no item passes.
abbrev pub first_index : {A : Type 0} → (A → Bool) → List A → Option ℕ
first_index test [] = None
first_index test (x ∷ xs) = if test x then Some 0 else option_map suc (first_index test xs)

-- The number of lines before the first wrong line, or `None` if no line is wrong. If there are bytes `rest` after the
-- last line end, these bytes are a wrong line.
abbrev pub wrong_at : (List ℕ → Bool) → List (List ℕ) → List ℕ → Option ℕ
wrong_at is_wrong lines rest =
    option_or (first_index is_wrong lines) (if nat_eq (length rest) 0 then None else Some (length lines))
