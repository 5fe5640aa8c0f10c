-- Defines the page of changes that a response contains, as specified in docs/PROFILE.md, "Responses to the relay".
use Rattle.std.specs.Prelude.{ℕ, ◌==◌, ◌&&◌, not, nat_le, Bool, false, if◌then◌else◌, List, [], ◌∷◌, ◌++◌, Option, None, Some, option_map, option_and_then, codes, fold, bytes_eq}
use Rattle.std.specs.List.{list_any, list_all}
use Rattle.json.specs.Json.{Json, null, boolean, number, string, array, object}
use Rattle.json.specs.Find.{get}
use Rattle.relay_core.specs.Messages.{Text, DocView, PageView}
use Rattle.relay_responses.specs.Read.{text_at, items_at, both, sequence_at, each_item}

-- Whether a byte is not a control character of ASCII.
abbrev pub is_plain_byte : ℕ → Bool
is_plain_byte b = nat_le 32 b && not (b == 127)

-- The given text, or `None` if the text has a control character.
abbrev pub plain : Text → Option Text
plain s = if list_all is_plain_byte s then Some s else None

-- The revision of an item in the list `changes` of a row.
abbrev pub rev_in : Json → Option Text
rev_in j = option_and_then plain (text_at (codes "rev") j)

-- The given list of leaves, or `None` if the given list is empty.
abbrev pub some_leaf : List Text → Option (List Text)
some_leaf [] = None
some_leaf (r ∷ rs) = Some (r ∷ rs)

-- The document id and the leaves of a row in a page of changes.
abbrev pub row_in : Json → Option DocView
row_in j = both (text_at (codes "id") j) (option_and_then some_leaf (option_and_then (each_item rev_in) (items_at (codes "changes") j)))

abbrev pub rows_in : Json → Option (List DocView)
rows_in j = option_and_then (each_item row_in) (items_at (codes "results") j)

-- ---- rows of one document

-- A document's known leaves `revs`, followed by those leaves of a second list that are not in `revs`. The added leaves
-- keep the order of the second list. A leaf that occurs more than once in the second list is added at most once.
abbrev pub add_revs : List Text → List Text → List Text
add_revs revs [] = revs
add_revs revs (r ∷ rs) = add_revs (if list_any (bytes_eq r) revs then revs else revs ++ r ∷ []) rs

-- A list of documents, after the leaves of a row are added to the document that has the row's id. If no document has
-- the row's id, a document with the id and leaves of the row is added at the end.
abbrev pub add_row : List DocView → DocView → List DocView
add_row [] row = (row.0, add_revs [] row.1) ∷ []
add_row (d ∷ ds) row = if bytes_eq row.0 d.0 then (d.0, add_revs d.1 row.1) ∷ ds else d ∷ add_row ds row

-- The documents of a page's rows. Each document occurs once, and has the leaves of all its rows, each leaf once.
abbrev pub merged : List DocView → List DocView
merged rows = fold add_row [] rows

-- ---- the page

-- The value of a page's optional member `pending`, which gives the number of documents after the page. The result is
-- `Some None` if the member is missing or null, and `None` if the member has a value other than a number or null.
abbrev pub pending_of : Option Json → Option (Option Text)
pending_of None = Some None
pending_of (Some null) = Some None
pending_of (Some (boolean b)) = None
pending_of (Some (number s)) = Some (Some s)
pending_of (Some (string s)) = None
pending_of (Some (array js)) = None
pending_of (Some (object ms)) = None

abbrev pub is_zero : Option Text → Bool
is_zero None = false
is_zero (Some s) = bytes_eq s (codes "0")

abbrev pub page_of : List DocView → Text → Option Text → PageView
page_of rows last pending = record { rows = merged rows; last_seq = last; is_last = is_zero pending; pending = pending }

abbrev pub page_in : Json → Option PageView
page_in j = option_map (λ p. page_of p.0 p.1.0 p.1.1) (both (rows_in j) (both (sequence_at (codes "last_seq") j) (pending_of (get (codes "pending") j))))
