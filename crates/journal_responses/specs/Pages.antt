-- This file defines the contents of a page of changes, and the output for the page.
use Rattle.std.specs.Prelude.{ℕ, Bool, true, ◌&&◌, ◌==◌, not, nat_eq, nat_le, if◌then◌else◌, List, [], ◌++◌, Option, None, Some, option_map, option_and_then, codes, decimal, length, flat_map, fold}
use Rattle.std.specs.List.{list_all}
use Rattle.std.specs.Char.{is_ascii_digit}
use Rattle.json.specs.Json.{Json, Items, null, boolean, number, string, array, object}
use Rattle.json.specs.Find.{get}
use Rattle.journal_lines.specs.Lists.{LeavesView, leaves_line}
use Rattle.journal_lines.specs.Lists.{each_item}
use Rattle.journal_lines.specs.Docs.{add_rev}
use Rattle.journal_responses.specs.Members.{text_at, items_at, seq_in, seq_at, both}

-- Whether a revision has no control character.
abbrev pub is_plain : List ℕ → Bool
is_plain text = list_all (λ b. nat_le 32 b && not (b == 127)) text

abbrev pub plain : List ℕ → Option (List ℕ)
plain text = if is_plain text then Some text else None

-- The revision of a change in a row of changes, if the revision has no control character.
abbrev pub rev_in : Json → Option (List ℕ)
rev_in change = option_and_then plain (text_at (codes "rev") change)

-- The revisions of a list, each once.
abbrev pub each_once : List (List ℕ) → List (List ℕ)
each_once revs = fold add_rev [] revs

-- The given list of revisions, or `None` if the list is empty.
abbrev pub some_revs : List (List ℕ) → Option (List (List ℕ))
some_revs revs = if nat_eq (length revs) 0 then None else Some revs

-- The revisions of a list of changes. A row of changes has at least one revision, as specified in docs/PROFILE.md,
-- "CouchDB's answers".
abbrev pub changes_in : Items → Option (List (List ℕ))
changes_in changes = option_and_then some_revs (each_item rev_in changes)

-- The sequence of a row of changes, or `-` if the sequence is missing or `null`.
abbrev pub row_seq : Option Json → Option (List ℕ)
row_seq None = Some (codes "-")
row_seq (Some null) = Some (codes "-")
row_seq (Some (boolean b)) = None
row_seq (Some (number s)) = seq_in (number s)
row_seq (Some (string s)) = seq_in (string s)
row_seq (Some (array js)) = None
row_seq (Some (object ms)) = None

abbrev pub row_by : List ℕ × (List ℕ × List (List ℕ)) → LeavesView
row_by p = (p.1.0, p.0, each_once p.1.1)

-- The sequence, the id and the leaves of a row of changes.
abbrev pub row_in : Json → Option LeavesView
row_in row = option_map row_by (both (text_at (codes "id") row) (both (row_seq (get (codes "seq") row)) (option_and_then changes_in (items_at (codes "changes") row))))

abbrev pub rows_in : Json → Option (List LeavesView)
rows_in page = option_and_then (each_item row_in) (items_at (codes "results") page)

-- The number of pending documents (member `pending`) of a page of changes, or `-` if the member is missing or `null`.
abbrev pub pending_in : Option Json → Option (List ℕ)
pending_in None = Some (codes "-")
pending_in (Some null) = Some (codes "-")
pending_in (Some (boolean b)) = None
pending_in (Some (number s)) = if list_all is_ascii_digit s then Some s else None
pending_in (Some (string s)) = None
pending_in (Some (array js)) = None
pending_in (Some (object ms)) = None

-- Whether a row of changes is printed. If the flag `several` is true, a row with fewer than two leaves is not printed.
abbrev pub is_printed : Bool → LeavesView → Bool
is_printed several row = if several then nat_le 2 (length row.2) else true

abbrev pub row_text : Bool → LeavesView → List ℕ
row_text several row = if is_printed several row then leaves_line (codes "state") row.0 row.1 row.2 else []

abbrev pub rows_text : Bool → List LeavesView → List ℕ
rows_text several rows = flat_map (row_text several) rows

-- The last line of the output for a page of changes: the number of rows, the last sequence, and the number of pending
-- documents.
abbrev pub last_line : ℕ → List ℕ → List ℕ → List ℕ
last_line rows last pending = codes "page " ++ decimal rows ++ codes " " ++ last ++ codes " " ++ pending ++ codes "\n"

abbrev pub page_by : Bool → List LeavesView × (List ℕ × List ℕ) → List ℕ
page_by several p = rows_text several p.0 ++ last_line (length p.0) p.1.0 p.1.1

-- The output for a page of changes.
abbrev pub page_in : Bool → Json → Option (List ℕ)
page_in several page = option_map (page_by several) (both (rows_in page) (both (seq_at (codes "last_seq") page) (pending_in (get (codes "pending") page))))
