-- Defines the explanation of a failed line of a script, as specified in docs/PROFILE.md, "Options".
use Rattle.std.specs.Prelude.{◌≡◌, ℕ, List, ◌++◌, codes, decimal, encode_utf8_all}
use Rattle.visible_text.specs.Visible.{IsSeen}

-- The text `new` is the text `old` followed by UTF-8 without hidden characters. The hidden characters (`is_hidden`)
-- include the line end.
abbrev pub AddsSeen : List ℕ → List ℕ → Type 0
AddsSeen old new = (more : List ℕ) × IsSeen more × (new ≡ old ++ encode_utf8_all more)

-- The beginning of the explanation of a failed line, with the line's number and the error's name.
abbrev pub beginning : ℕ → List ℕ → List ℕ
beginning number name = codes "line " ++ decimal number ++ codes ": " ++ name ++ codes ": "

-- The text `new` is the text `old` followed by the explanation of a failed line. The explanation is one line: the
-- failed line's number, the error's name, a reason without hidden characters, and a line end.
abbrev pub IsTold : ℕ → List ℕ → List ℕ → List ℕ → Type 0
IsTold number name old new =
    (reason : List ℕ) × IsSeen reason × (new ≡ old ++ beginning number name ++ encode_utf8_all reason ++ codes "\n")
