-- Defines the lines of a program's input.
use Rattle.std.specs.Prelude.{◌≡◌, ℕ, List, [], ◌∷◌, ◌++◌, false, All}
use Rattle.script_engine.specs.Lines.{has_line_end}

-- The lines of a list in order, each with a line end.
abbrev pub joined : List (List ℕ) → List ℕ
joined [] = []
joined (line ∷ lines) = line ++ 10 ∷ joined lines

-- The input is the given lines, each with a line end, and then the bytes `rest`. Neither the lines nor the bytes `rest`
-- contain a line end.
pub record AreLines (input : List ℕ) (lines : List (List ℕ)) (rest : List ℕ) : Type 0 where
  pub whole : input ≡ joined lines ++ rest
  pub lines_whole : All (λ line. has_line_end line ≡ false) lines
  pub rest_begun : has_line_end rest ≡ false
