-- Defines how the members of a JSON value are read. If a JSON object has a name twice, the last member with this name
-- counts.
use Rattle.std.specs.Prelude.{ℕ, ◌^◌, Bool, ◌&&◌, nat_lt, if◌then◌else◌, List, length, Option, None, Some, option_and_then}
use Rattle.std.specs.List.{list_all}
use Rattle.std.specs.Char.{digit_value}
use Rattle.std.specs.Str.Parse.{digits_value, without_leading_plus}
use Rattle.json.specs.Json.{Json, Items}
use Rattle.json.specs.Find.{get, as_str, as_number, as_array}

-- The value of a JSON object's member, if it is a string.
abbrev pub text_at : List ℕ → Json → Option (List ℕ)
text_at name j = option_and_then as_str (get name j)

-- The items of the member `name` of a JSON object, if this member is a list.
abbrev pub items_at : List ℕ → Json → Option Items
items_at name j = option_and_then as_array (get name j)

abbrev pub both : {A B : Type 0} → Option A → Option B → Option (A × B)
both (Some x) (Some y) = Some (x, y)
both None y = None
both (Some x) None = None

-- Whether a list of bytes is one or more decimal digits.
abbrev pub are_digits : List ℕ → Bool
are_digits ds = nat_lt 0 (length ds) && list_all (λ c. nat_lt (digit_value c) 10) ds

-- The number that a list of decimal digits represents, if the number has at most 64 bits.
abbrev pub number_of_digits : List ℕ → Option ℕ
number_of_digits ds = if are_digits ds && nat_lt (digits_value 10 ds) (2 ^ 64) then Some (digits_value 10 ds) else None

-- The number of a JSON value, if the number has at most 64 bits and is written with digits only.
abbrev pub number_in : Json → Option ℕ
number_in j = option_and_then (λ s. number_of_digits (without_leading_plus s)) (as_number j)

-- The value of a JSON object's member, if the value is a number below 2^64 that is written with digits only.
abbrev pub number_at : List ℕ → Json → Option ℕ
number_at name j = option_and_then number_in (get name j)
