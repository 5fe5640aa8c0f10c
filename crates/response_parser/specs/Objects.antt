-- Defines how one byte outside of names and values changes the parser's state, as specified in docs/PROFILE.md,
-- "CouchDB's answers".
use Rattle.std.specs.Prelude.{ℕ, ◌+◌, ◌-◌, ◌&&◌, ◌||◌, ◌==◌, nat_lt, [], ◌∷◌, Bool, true, false, not, cond}
use Rattle.doc_envelope.specs.Texts.{is_space, is_json}
use Rattle.response_parser.specs.Wanted.{wants_leaves, wants_changes, is_strict}
use Rattle.response_parser.specs.State.{State, more, at, refused, added}
use Rattle.response_parser.specs.Names.{name_of, is_plain, is_known, is_id, is_inner}
use Rattle.response_parser.specs.Signs.{sign_begun}
use Rattle.response_parser.specs.Lines.{is_lower, text_begun}
use Rattle.response_parser.specs.declared.place.Place.{Place}
use Rattle.response_parser.specs.declared.place.Place.TheVariants.{Start, Begin, Sign, Between, Item, NextItem, AfterItem, Member, NextMember, AfterMember, Key, KeyEscape, Colon, Ahead, List as ListPlace, Value, Quoted, Escaped, Revs, Line, Refused}
use Rattle.response_parser.specs.declared.place.RevPlace.TheVariants.{List as RevList}
use Rattle.response_parser.specs.declared.place.LinePlace.TheVariants.{Word}
use Rattle.response_parser.specs.declared.place.Refusal.TheVariants.{NotJson, NoAnswer, NoDocument}
use Rattle.response_parser.specs.declared.place.Name.{Name}
use Rattle.response_parser.specs.declared.place.Name.TheVariants as names
use Rattle.response_parser.specs.declared.place.Found.TheVariants as found

-- The maximum number of open lists and objects in a response.
abbrev pub max_depth : ℕ
max_depth = 8

-- The parser's state after a list or an object opens.
abbrev pub opened : Place → State → State
opened place s =
    cond (nat_lt s.depth max_depth)
    (record s { place = place; diff = s.diff && nat_lt 0 s.depth; depth = s.depth + 1; known = false; named = false; failed = false })
    (refused NoAnswer s)

-- The parser's state after a list or an object closes. If the outermost list or object closes, the response ends.
abbrev pub closed : Place → State → State
closed place s =
    record s { place = cond (nat_lt 1 s.depth) place Between; some = true; depth = s.depth - 1; known = true; named = false; failed = false }

abbrev pub list_closed : State → State
list_closed s = closed AfterMember (record s { inner = false })

-- The parser's place after an object. The place is `AfterMember` if the object is a document's entry in a `_revs_diff`
-- response, and otherwise `AfterItem`.
abbrev pub behind_object : State → Place
behind_object s = cond (s.diff && s.depth == 2) AfterMember AfterItem

-- The parser's state after an object closes. An object without a known member contains no document, so the parser skips
-- or rejects the object.
abbrev pub object_closed : State → State
object_closed s =
    cond s.known (closed (behind_object s) s)
    (cond (is_strict s.wanted) (refused NoDocument s) (closed (behind_object s) (record s { passed = more s.passed })))

-- The parser's state after an empty object closes. A `_revs_diff` response without members means that no revision is
-- missing.
abbrev pub empty_closed : State → State
empty_closed s = object_closed (record s { known = wants_leaves s.wanted && s.depth == 1 })

-- The parser's state after the opening brace of a document's entry in a `_revs_diff` response. The entry is the value
-- of a member, and the parser reports the member's name as the document's id.
abbrev pub entry_opened : State → State
entry_opened s = opened Member (record s { diff = true; found = found.Id })

-- ---- responses and lists

abbrev pub list_opened : State → State
list_opened s = cond (wants_changes s.wanted) (refused NoAnswer s) (opened Item s)

-- Whether the parser's place is before the first response of its input.
abbrev pub is_first : Place → Bool
is_first Start = true
is_first Begin = true
is_first Sign = false
is_first Between = false
is_first Item = false
is_first NextItem = false
is_first AfterItem = false
is_first Member = false
is_first NextMember = false
is_first AfterMember = false
is_first Key = false
is_first KeyEscape = false
is_first (Colon name) = false
is_first (Ahead name) = false
is_first ListPlace = false
is_first (Value name) = false
is_first (Quoted name) = false
is_first (Escaped name) = false
is_first (Revs place) = false
is_first (Line place) = false
is_first (Refused why) = false

-- The parser's state after the first byte b of a line or response, if b opens neither a list nor an object.
abbrev pub at_begin : State → ℕ → State
at_begin s b =
    cond (is_lower b && not (wants_leaves s.wanted)) (text_begun Word s b)
    (cond (is_first s.place) (sign_begun s b) (refused NoAnswer s))

abbrev pub at_answer : State → ℕ → State
at_answer s b =
    cond (is_space b) s (cond (b == 91) (list_opened s) (cond (b == 123) (opened Member s) (at_begin s b)))

abbrev pub at_item : State → ℕ → State
at_item s b =
    cond (is_space b) s (cond (b == 123) (opened Member s) (cond (b == 93) (list_closed s) (refused NoAnswer s)))

abbrev pub at_next_item : State → ℕ → State
at_next_item s b = cond (is_space b) s (cond (b == 123) (opened Member s) (refused NoAnswer s))

abbrev pub after_item : State → ℕ → State
after_item s b =
    cond (is_space b) s (cond (b == 44) (at NextItem s) (cond (b == 93) (list_closed s) (refused NotJson s)))

-- ---- names

abbrev pub key_begun : Bool → State → State
key_begun first s = record s { place = Key; text = 34 ∷ []; first = first }

abbrev pub at_member : State → ℕ → State
at_member s b =
    cond (is_space b) s (cond (b == 34) (key_begun true s) (cond (b == 125) (empty_closed s) (refused NotJson s)))

abbrev pub at_next_member : State → ℕ → State
at_next_member s b = cond (is_space b) s (cond (b == 34) (key_begun false s) (refused NotJson s))

abbrev pub after_member : State → ℕ → State
after_member s b =
    cond (is_space b) s (cond (b == 44) (at NextMember s) (cond (b == 125) (object_closed s) (refused NotJson s)))

-- The parser's state after it has read the first name of an object. The parser reads this object as one value. The
-- parser's stored text is the object's opening brace and first name.
abbrev pub plain_begun : Name → State → State
plain_begun name s = record s { place = Value name; text = 123 ∷ s.text; nesting = 1 }

abbrev pub key_ended : Name → State → State
key_ended name s = cond (is_plain name) (plain_begun name s) (at (Colon name) s)

abbrev pub name_in : State → Name
name_in s = name_of s.wanted s.first s.inner s.diff s.depth s.text

abbrev pub named : State → State
named s = cond (is_json s.text) (key_ended (name_in s) s) (refused NotJson s)

abbrev pub in_key : State → ℕ → State
in_key s b = cond (b == 34) (named (added b s)) (cond (b == 92) (at KeyEscape (added b s)) (added b s))

abbrev pub in_key_escape : State → ℕ → State
in_key_escape s b = at Key (added b s)

-- ---- names and values

abbrev pub value_place : Name → Place
value_place names.Plain = Value names.Plain
value_place names.Item = Value names.Item
value_place names.Document = Value names.Document
value_place names.Id = Value names.Id
value_place names.List = ListPlace
value_place names.Docs = ListPlace
value_place names.Changes = ListPlace
value_place names.Rev = Value names.Rev
value_place names.Missing = Revs RevList
value_place names.Passed = Value names.Passed
value_place names.Last = Value names.Last
value_place names.Seq = Value names.Seq
value_place names.Error = Value names.Error
value_place names.Reason = Value names.Reason
value_place names.Other = Value names.Other
value_place names.Foreign = Value names.Foreign

abbrev pub value_begun : Name → State → State
value_begun name s =
    record s { place = value_place name; known = s.known || is_known name; named = s.named || is_id name; inner = s.inner || is_inner name; text = []; nesting = 0 }

-- The parser's state after a name and its colon. In a feed row, the revisions of a document must come after the
-- document's id.
abbrev pub begun_as : Name → State → State
begun_as names.Plain s = value_begun names.Plain s
begun_as names.Item s = value_begun names.Item s
begun_as names.Document s = value_begun names.Document s
begun_as names.Id s = value_begun names.Id s
begun_as names.List s = value_begun names.List s
begun_as names.Docs s = value_begun names.Docs s
begun_as names.Changes s = cond s.named (value_begun names.Changes s) (refused NoAnswer s)
begun_as names.Rev s = value_begun names.Rev s
begun_as names.Missing s = value_begun names.Missing s
begun_as names.Passed s = value_begun names.Passed s
begun_as names.Last s = value_begun names.Last s
begun_as names.Seq s = value_begun names.Seq s
begun_as names.Error s = value_begun names.Error s
begun_as names.Reason s = value_begun names.Reason s
begun_as names.Other s = value_begun names.Other s
begun_as names.Foreign s = refused NoDocument s

-- Whether the parser's last name may be the id of a document with missing revisions.
abbrev pub is_ahead : State → Bool
is_ahead s = wants_leaves s.wanted && (s.depth == 1 && (s.first || s.diff))

abbrev pub at_colon : Name → State → ℕ → State
at_colon name s b =
    cond (is_space b) s
    (cond (b == 58) (cond (is_ahead s) (at (Ahead name) s) (begun_as name s)) (refused NotJson s))

abbrev pub at_list : State → ℕ → State
at_list s b = cond (is_space b) s (cond (b == 91) (opened Item s) (refused NoAnswer s))

-- The parser's state after a byte outside of names and values.
abbrev pub moved_between : Place → State → ℕ → State
moved_between Start s b = s
moved_between Begin s b = s
moved_between Sign s b = s
moved_between Between s b = s
moved_between Item s b = at_item s b
moved_between NextItem s b = at_next_item s b
moved_between AfterItem s b = after_item s b
moved_between Member s b = s
moved_between NextMember s b = s
moved_between AfterMember s b = after_member s b
moved_between Key s b = s
moved_between KeyEscape s b = s
moved_between (Colon name) s b = at_colon name s b
moved_between (Ahead name) s b = s
moved_between ListPlace s b = at_list s b
moved_between (Value name) s b = s
moved_between (Quoted name) s b = s
moved_between (Escaped name) s b = s
moved_between (Revs place) s b = s
moved_between (Line place) s b = s
moved_between (Refused why) s b = s
