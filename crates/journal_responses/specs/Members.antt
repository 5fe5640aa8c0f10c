-- Defines how the members of a JSON value, such as sequences, are read. If a JSON object has a name twice, the last
-- member with this name counts.
pub use Rattle.journal_lines.specs.Members.{both, items_at, text_at}
use Rattle.std.specs.Prelude.{ℕ, List, Option, None, Some, option_and_then}
use Rattle.json.specs.Json.{Json, null, boolean, number, string, array, object}
use Rattle.json.specs.Find.{get}
use Rattle.journal_lines.specs.Lists.{token}

-- The sequence that a JSON value represents: the content of a string that is a sequence, or the text of a number.
abbrev pub seq_in : Json → Option (List ℕ)
seq_in null = None
seq_in (boolean b) = None
seq_in (number s) = Some s
seq_in (string s) = token s
seq_in (array js) = None
seq_in (object ms) = None

-- The sequence in a member of a JSON object. The result is `None` if the member is absent, or if its value is neither a
-- number nor a string with a sequence.
abbrev pub seq_at : List ℕ → Json → Option (List ℕ)
seq_at name j = option_and_then seq_in (get name j)

-- The given optional text, or the text `other` if the optional text is absent.
abbrev pub text_or : List ℕ → Option (List ℕ) → List ℕ
text_or other None = other
text_or other (Some text) = text
