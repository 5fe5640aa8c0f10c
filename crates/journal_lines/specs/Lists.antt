-- Defines the lines that list the leaves of a document, as specified in docs/PROFILE.md, "Journals".
use Rattle.std.specs.Prelude.{ℕ, if◌then◌else◌, List, [], ◌∷◌, ◌++◌, Option, None, Some, String, string_bytes, option_and_then, map, flat_map, codes}
use Rattle.std.specs.Global.{Global}
use Rattle.json.specs.Json.{Json, Items, no_items, item, null, boolean, number, string, array, object, document}
use Rattle.json.specs.Find.{as_str}
use Rattle.json.specs.Print.{quoted}
use Rattle.journal_lines.specs.Texts.{cut_at_blank, is_token, text_in}
use Rattle.journal_lines.specs.declared.leaves.Leaves.{Leaves}

-- The contents of a journal line with leaves: a sequence, the id of a document, and revisions.
abbrev pub LeavesView : Type 0
LeavesView = List ℕ × List ℕ × List (List ℕ)

abbrev pub texts_of : List (String Global) → List (List ℕ)
texts_of texts = map string_bytes texts

abbrev pub leaves_view : Leaves → LeavesView
leaves_view leaves = (string_bytes leaves.seq, string_bytes leaves.id, texts_of leaves.revs.items)

-- The list xs after the item x was added at its beginning, or `None` if x or xs is `None`.
abbrev pub with_first : {A : Type 0} → Option A → Option (List A) → Option (List A)
with_first None xs = None
with_first (Some x) None = None
with_first (Some x) (Some xs) = Some (x ∷ xs)

-- The results of function `reads` for all items of a JSON list, or `None` if an item has no result.
abbrev pub each_item : {A : Type 0} → (Json → Option A) → Items → Option (List A)
each_item reads no_items = Some []
each_item reads (item j js) = with_first (reads j) (each_item reads js)

-- The list xs followed by a second list, or `None` if the second list is absent.
abbrev pub prepend : {A : Type 0} → List A → Option (List A) → Option (List A)
prepend xs None = None
prepend xs (Some ys) = Some (xs ++ ys)

-- The strings of a JSON list, if all its items are strings.
abbrev pub revs_json : Items → Option (List (List ℕ))
revs_json items = each_item as_str items

abbrev pub named_by : List ℕ → Option (List ℕ) → Option (List (List ℕ)) → Option LeavesView
named_by seq None revs = None
named_by seq (Some id) None = None
named_by seq (Some id) (Some revs) = Some (seq, id, revs)

abbrev pub named_items : List ℕ → Items → Option LeavesView
named_items seq no_items = None
named_items seq (item j js) = named_by seq (as_str j) (revs_json js)

-- The document id and the revisions that a JSON list names.
abbrev pub named_in : List ℕ → Json → Option LeavesView
named_in seq null = None
named_in seq (boolean b) = None
named_in seq (number s) = None
named_in seq (string s) = None
named_in seq (array js) = named_items seq js
named_in seq (object ms) = None

-- The sequence `seq`, together with the document id and the revisions in the text of a JSON list.
abbrev pub list_in : List ℕ → List ℕ → Option LeavesView
list_in seq list = option_and_then (named_in seq) (document list)

abbrev pub token : List ℕ → Option (List ℕ)
token text = if is_token text then Some text else None

-- The leaves of a journal line with the given sequence and JSON list. The result is `None` if the line has no sequence
-- or no list, or if the list is not an id followed by revisions.
abbrev pub leaves_at : Option (List ℕ) → Option (List ℕ) → Option LeavesView
leaves_at None list = None
leaves_at (Some seq) None = None
leaves_at (Some seq) (Some list) = list_in seq list

abbrev pub leaves_by : Option (List ℕ × List ℕ) → Option LeavesView
leaves_by None = None
leaves_by (Some parts) = leaves_at (option_and_then token (text_in parts.0)) (text_in parts.1)

-- The leaves that a journal line names. The argument `rest` is the line without its beginning, which is `state` or
-- `lacks` and a blank.
abbrev pub leaves_in : List ℕ → Option LeavesView
leaves_in rest = leaves_by (cut_at_blank rest)

-- The revisions of a list as JSON strings, each after a comma.
abbrev pub revs_text : List (List ℕ) → List ℕ
revs_text revs = flat_map (λ rev. codes "," ++ quoted rev) revs

-- A line that lists leaves: the kind `word`, a sequence, and a JSON list of the id and the revisions.
abbrev pub leaves_line : List ℕ → List ℕ → List ℕ → List (List ℕ) → List ℕ
leaves_line word seq id revs = word ++ codes " " ++ seq ++ codes " [" ++ quoted id ++ revs_text revs ++ codes "]\n"
