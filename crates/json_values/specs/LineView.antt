-- Defines the JSON data that the value of a line represents.
use Rattle.std.specs.Prelude.{ℕ, List, [], ◌∷◌, map}
use Rattle.std.specs.Borrow.{Bor}
use Rattle.serde_json.specs.Data.{Data, null, boolean, number, string, array, object, Items, Members, no_members, member}
use Rattle.serde_json.specs.View.{number_view, items_of}
use Rattle.json_values.specs.declared.line.LineValue.{LineValue, fold-LineValue}
use Rattle.json_values.specs.declared.line.LineValue.TheOpen.{LineValue-F}

abbrev pub members_of : List (Bor (List ℕ) × Data) → Members
members_of [] = no_members
members_of (m ∷ ms) = member m.0.now m.1 (members_of ms)

-- The data that a JSON value represents, computed from the data of the values inside this value.
abbrev pub line_step : LineValue-F Data → Data
line_step LineValue-F.Null = null
line_step (LineValue-F.Bool b) = boolean b
line_step (LineValue-F.Number x) = number (number_view x)
line_step (LineValue-F.String s) = string s.now
line_step (LineValue-F.Array v) = array (items_of v.now)
line_step (LineValue-F.Object v) = object (members_of v.now)

abbrev pub line_view : LineValue → Data
line_view = fold-LineValue Data line_step

abbrev pub line_items : List LineValue → Items
line_items vs = items_of (map line_view vs)

abbrev pub line_members : List (Bor (List ℕ) × LineValue) → Members
line_members ms = members_of (map (λ m. (m.0, line_view m.1)) ms)
