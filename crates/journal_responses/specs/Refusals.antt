-- Defines the output for a response of `_bulk_docs`.
use Rattle.std.specs.Prelude.{ℕ, Bool, false, ◌||◌, if◌then◌else◌, List, [], ◌++◌, Option, codes, is_some}
use Rattle.json.specs.Json.{Json, Items, no_items, item}
use Rattle.json.specs.Find.{get}
use Rattle.json.specs.Print.{quoted}
use Rattle.journal_responses.specs.Members.{text_at, text_or}

-- The value of a JSON object's member, or the empty text if the member is missing or is not a string.
abbrev pub word_at : List ℕ → Json → List ℕ
word_at name j = text_or [] (text_at name j)

-- Whether an item of a `_bulk_docs` response says that a document was refused.
abbrev pub is_refused : Json → Bool
is_refused entry = is_some (get (codes "error") entry)

-- The line of output for a refused document.
abbrev pub refused_line : Json → List ℕ
refused_line entry =
    codes "refused " ++ quoted (word_at (codes "id") entry) ++ codes " " ++ quoted (word_at (codes "rev") entry) ++ codes " "
    ++ quoted (word_at (codes "error") entry) ++ codes " " ++ quoted (word_at (codes "reason") entry) ++ codes "\n"

abbrev pub entry_text : Json → List ℕ
entry_text entry = if is_refused entry then refused_line entry else []

abbrev pub refused_text : Items → List ℕ
refused_text no_items = []
refused_text (item entry entries) = entry_text entry ++ refused_text entries

abbrev pub any_refused : Items → Bool
any_refused no_items = false
any_refused (item entry entries) = is_refused entry || any_refused entries
