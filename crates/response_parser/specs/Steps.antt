-- Defines how one byte of the input changes the parser's state, as specified in docs/PROFILE.md, "CouchDB's answers"
-- and "Lines of documents".
use Rattle.std.specs.Prelude.{ℕ, Bool, true, false, cond}
use Rattle.response_parser.specs.State.{State, more}
use Rattle.response_parser.specs.Signs.{in_sign}
use Rattle.response_parser.specs.Lines.{in_line}
use Rattle.response_parser.specs.Objects.{at_answer, at_item, at_next_item, after_item, at_member, at_next_member, after_member, in_key, in_key_escape, at_colon, at_list}
use Rattle.response_parser.specs.Values.{in_value, in_quoted, in_escaped, at_ahead}
use Rattle.response_parser.specs.Revs.{in_revs}
use Rattle.response_parser.specs.declared.place.Place.{Place}
use Rattle.response_parser.specs.declared.place.Place.TheVariants.{Start, Begin, Sign, Between, Item, NextItem, AfterItem, Member, NextMember, AfterMember, Key, KeyEscape, Colon, Ahead, List as ListPlace, Value, Quoted, Escaped, Revs, Line, Refused}
use Rattle.response_parser.specs.declared.place.Found.TheVariants as found

abbrev pub moved : Place → State → ℕ → State
moved Start s b = at_answer s b
moved Begin s b = at_answer s b
moved Sign s b = in_sign s b
moved Between s b = at_answer s b
moved Item s b = at_item s b
moved NextItem s b = at_next_item s b
moved AfterItem s b = after_item s b
moved Member s b = at_member s b
moved NextMember s b = at_next_member s b
moved AfterMember s b = after_member s b
moved Key s b = in_key s b
moved KeyEscape s b = in_key_escape s b
moved (Colon name) s b = at_colon name s b
moved (Ahead name) s b = at_ahead name s b
moved ListPlace s b = at_list s b
moved (Value name) s b = in_value name s b
moved (Quoted name) s b = in_quoted name s b
moved (Escaped name) s b = in_escaped name s b
moved (Revs place) s b = in_revs place s b
moved (Line place) s b = in_line place s b
moved (Refused why) s b = s

abbrev pub is_refused : Place → Bool
is_refused Start = false
is_refused Begin = false
is_refused Sign = false
is_refused Between = false
is_refused Item = false
is_refused NextItem = false
is_refused AfterItem = false
is_refused Member = false
is_refused NextMember = false
is_refused AfterMember = false
is_refused Key = false
is_refused KeyEscape = false
is_refused (Colon name) = false
is_refused (Ahead name) = false
is_refused ListPlace = false
is_refused (Value name) = false
is_refused (Quoted name) = false
is_refused (Escaped name) = false
is_refused (Revs place) = false
is_refused (Line place) = false
is_refused (Refused why) = true

-- The parser's state after the parser has counted a byte as read, but has not yet processed the byte. The parser counts
-- no byte after it has rejected a byte.
abbrev pub begun : State → State
begun s = record s { found = found.Nothing; taken = cond (is_refused s.place) s.taken (more s.taken) }

unfoldable pub step : State → ℕ → State
step s b = moved s.place (begun s) b
