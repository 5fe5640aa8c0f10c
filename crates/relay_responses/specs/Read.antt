-- Defines functions that find the parts of a JSON response. If a JSON object has several members with the same name,
-- the functions of this file use the last of these members.
use Rattle.std.specs.Prelude.{if◌then◌else◌, List, [], ◌∷◌, ◌++◌, Option, None, Some, option_and_then}
use Rattle.std.specs.Option.{option_map_or}
use Rattle.std.specs.List.{list_all}
use Rattle.std.specs.Char.{is_ascii_digit}
use Rattle.std.specs.Str.{is_utf8}
use Rattle.json.specs.Json.{Json, Items, no_items, item, document}
use Rattle.json.specs.Find.{get, as_str, as_array, as_number}
use Rattle.relay_core.specs.Messages.{Text}

-- The JSON value of a body, if the body is one JSON value in UTF-8.
abbrev pub json_in : Text → Option Json
json_in body = if is_utf8 body then document body else None

-- The value of a JSON object's member, if the value is a string.
abbrev pub text_at : Text → Json → Option Text
text_at name j = option_and_then as_str (get name j)

-- The items of a JSON object's member, if the member's value is a list.
abbrev pub items_at : Text → Json → Option Items
items_at name j = option_and_then as_array (get name j)

abbrev pub both : {A B : Type 0} → Option A → Option B → Option (A × B)
both (Some x) (Some y) = Some (x, y)
both None y = None
both (Some x) None = None

-- ---- sequences

-- The text of a JSON number, if the text has only digits.
abbrev pub digits_in : Text → Option Text
digits_in s = if list_all is_ascii_digit s then Some s else None

-- The first of two optional values if the first value is present, otherwise the second value.
abbrev pub or_else : Option Text → Option Text → Option Text
or_else (Some x) o = Some x
or_else None o = o

-- A sequence: the content of a string, or the digits of a non-negative integer.
abbrev pub sequence_in : Json → Option Text
sequence_in j = or_else (as_str j) (option_and_then digits_in (as_number j))

abbrev pub sequence_at : Text → Json → Option Text
sequence_at name j = option_and_then sequence_in (get name j)

-- ---- lists

abbrev pub with_first : {A : Type 0} → Option A → Option (List A) → Option (List A)
with_first None xs = None
with_first (Some x) None = None
with_first (Some x) (Some xs) = Some (x ∷ xs)

-- The results of the function `reads` for all items of a list, or `None` if any item has no result.
abbrev pub each_item : {A : Type 0} → (Json → Option A) → Items → Option (List A)
each_item reads no_items = Some []
each_item reads (item j js) = with_first (reads j) (each_item reads js)

-- The results of the function `reads` for the items of a list. An item for which `reads` returns `None` is skipped.
abbrev pub some_items : {A : Type 0} → (Json → Option A) → Items → List A
some_items reads no_items = []
some_items reads (item j js) = option_map_or (λ x. x ∷ some_items reads js) (reads j) (some_items reads js)

-- The list xs followed by a second list, or `None` if the second list is `None`.
abbrev pub prepend : {A : Type 0} → List A → Option (List A) → Option (List A)
prepend xs None = None
prepend xs (Some ys) = Some (xs ++ ys)
