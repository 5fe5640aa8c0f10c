-- Defines the output for a response that describes a server or a database.
use Rattle.std.specs.Prelude.{ℕ, Bool, true, false, ◌&&◌, not, is_some, if◌then◌else◌, List, ◌++◌, bytes_eq, codes}
use Rattle.json.specs.Json.{Json, null, boolean, number, string, array, object}
use Rattle.json.specs.Find.{get}
use Rattle.journal_responses.specs.Members.{seq_at, text_or}

-- The sequence in a JSON object's member, or `-` if the member is missing or is not a sequence.
abbrev pub word_or_none : List ℕ → Json → List ℕ
word_or_none name j = text_or (codes "-") (seq_at name j)

abbrev pub instance_by : List ℕ → List ℕ
instance_by word = if bytes_eq word (codes "0") then codes "-" else word

-- The output for a description: the identity of the server, the time at which the database was created, and the update
-- sequence.
abbrev pub info_text : Json → List ℕ
info_text j =
    codes "info " ++ word_or_none (codes "uuid") j ++ codes " " ++ instance_by (word_or_none (codes "instance_start_time") j)
    ++ codes " " ++ word_or_none (codes "update_seq") j ++ codes "\n"

abbrev pub is_object : Json → Bool
is_object null = false
is_object (boolean b) = false
is_object (number s) = false
is_object (string s) = false
is_object (array js) = false
is_object (object ms) = true

-- Whether a JSON value describes a server or a database: an object without a member `error`.
abbrev pub is_info : Json → Bool
is_info j = is_object j && not (is_some (get (codes "error") j))
