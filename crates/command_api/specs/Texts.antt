-- Defines text that several commands print, as specified in docs/PROFILE.md, "Answers".
use Rattle.std.specs.Prelude.{ℕ, ◌==◌, List, [], ◌∷◌, ◌++◌, length, codes, decimal, map, if◌then◌else◌, Option}
use Rattle.std.specs.List.{join_with_byte}
use Rattle.std.specs.Option.{option_map_or}
use Rattle.serde_json.specs.Data.{string}
use Rattle.serde_json.specs.Written.{compact_text}
use Rattle.rev_core.specs.Rev.{RevId}
use Rattle.rev_core.specs.Text.{rev_text}

-- A text followed by a line end.
abbrev pub ended : List ℕ → List ℕ
ended text = text ++ 10 ∷ []

-- A string as JSON, in quotation marks.
abbrev pub quoted : List ℕ → List ℕ
quoted text = compact_text (string text)

-- The text of an optional revision, or the empty text if there is no revision.
abbrev pub text_of_any : Option RevId → List ℕ
text_of_any rev = option_map_or rev_text rev []

-- The texts of revisions, separated by commas.
abbrev pub texts_of_revs : List RevId → List ℕ
texts_of_revs revs = join_with_byte 44 (map rev_text revs)

-- A line of output with a keyword, a document id and revisions.
abbrev pub line_of_revs : List ℕ → List ℕ → List RevId → List ℕ
line_of_revs word id revs = ended (word ++ codes " " ++ quoted id ++ codes " " ++ texts_of_revs revs)

-- A line of output with a keyword, a document id and revisions, or the empty text if there are no revisions.
abbrev pub revs_line : List ℕ → List ℕ → List RevId → List ℕ
revs_line word id revs = if length revs == 0 then [] else line_of_revs word id revs

-- The output line in which `changes` or `docs` prints the last sequence of a feed.
abbrev pub last_line : ℕ → List ℕ
last_line last = ended (codes "last " ++ decimal last)
