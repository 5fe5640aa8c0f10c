-- Defines how one byte of a value changes the parser's state, as specified in docs/PROFILE.md, "CouchDB's answers".
use Rattle.std.specs.Prelude.{ℕ, ◌+◌, ◌-◌, ◌&&◌, ◌||◌, ◌==◌, nat_lt, length, slice_index, List, [], ◌∷◌, ◌++◌, true, false, not, cond, Option, Some, None}
use Rattle.doc_envelope.specs.Texts.{is_space, is_json}
use Rattle.doc_envelope.specs.Names.{has_id, is_log}
use Rattle.response_parser.specs.Wanted.{wants_documents, covered}
use Rattle.response_parser.specs.State.{State, more, at, refused, added}
use Rattle.response_parser.specs.Names.{is_plain, is_item, is_seq, is_error, found_of, passes, refusal_of}
use Rattle.response_parser.specs.Objects.{object_closed, entry_opened, begun_as, moved_between}
use Rattle.response_parser.specs.declared.place.Place.{Place}
use Rattle.response_parser.specs.declared.place.Place.TheVariants.{Start, Begin, Sign, Between, Item, NextItem, AfterItem, Member, NextMember, AfterMember, Key, KeyEscape, Colon, Ahead, List as ListPlace, Value, Quoted, Escaped, Revs, Line, Refused}
use Rattle.response_parser.specs.declared.place.Refusal.{Refusal}
use Rattle.response_parser.specs.declared.place.Refusal.TheVariants.{NotJson, NoAnswer, NotWhole}
use Rattle.response_parser.specs.declared.place.Name.{Name}
use Rattle.response_parser.specs.declared.place.Found.{Found}
use Rattle.response_parser.specs.declared.place.Found.TheVariants as found

-- ---- a value is complete

abbrev pub found_as : Option (List ℕ) → State → State
found_as (Some t) s = record s { text = t; found = found.Document }
found_as None s = refused NotWhole s

abbrev pub document_found : State → State
document_found s = found_as (covered s.wanted s.text) s

abbrev pub told : Found → State → State
told found.Nothing s = record s { found = found.Nothing }
told found.Document s = document_found s
told found.Id s = record s { found = found.Id }
told found.Rev s = record s { found = found.Rev }

abbrev pub passed_by : Name → ℕ → State → State
passed_by name first s = record s { passed = cond (passes name first) (more s.passed) s.passed }

-- The parser's state after it has read the value of a member. The member has the kind `name`. If the member is the
-- `error` of a CouchDB error and its value is a string, the parser stores the value.
abbrev pub error_kept : Name → ℕ → State → State
error_kept name first s = cond (is_error name && first == 34) (record s { failed = true; error = s.text }) s

-- The parser's state after it has read the value of a member. The member has the kind `name`. If the first member of an
-- object is `seq`, and more members follow, only these later members decide whether the parser skips the object. In a
-- PouchDB dump, an object whose first member is `seq` has no other member.
abbrev pub seq_read : Name → State → State
seq_read name s = record s { known = cond (is_seq name) false s.known }

abbrev pub judged : Name → ℕ → State → State
judged name first s = told (found_of name first) (error_kept name first (passed_by name first (seq_read name s)))

abbrev pub value_passed : State → ℕ → State
value_passed s b = cond (b == 44) (at NextMember s) (object_closed s)

abbrev pub value_judged : Option Refusal → Name → State → ℕ → State
value_judged (Some why) name s b = refused why s
value_judged None name s b = judged name (slice_index s.text 0) (value_passed s b)

abbrev pub value_ended : Name → State → ℕ → State
value_ended name s b =
    cond (is_json s.text) (value_judged (refusal_of name (slice_index s.text 0) s.failed) name s b) (refused NotJson s)

-- The parser's state after a document's closing brace. The parser reports a document at the document's closing brace,
-- unless the document is a log.
abbrev pub plain_found : State → State
plain_found s = cond (wants_documents s.wanted && not (is_log s.text)) (document_found s) s

abbrev pub plain_ended : State → State
plain_ended s = cond (is_json s.text) (plain_found (object_closed (record s { known = true }))) (refused NotJson s)

-- The parser's state after the closing brace of an item of `docs`. The item is a document if it has a member `_id`.
abbrev pub item_found : State → State
item_found s =
    cond (has_id s.text) (document_found (object_closed (record s { known = true }))) (object_closed (record s { known = false }))

abbrev pub item_ended : State → State
item_ended s = cond (is_json s.text) (item_found s) (refused NotJson s)

-- The parser's state after the closing brace of an object that is read as one value.
abbrev pub object_ended : Name → State → State
object_ended name s = cond (is_item name) (item_ended s) (plain_ended s)

-- ---- bytes of a value

-- The parser's state after an opening bracket in a value. The parser rejects a value in which more than 128 brackets
-- are open.
abbrev pub deeper : State → ℕ → State
deeper s b = cond (nat_lt s.nesting 128) (record s { nesting = s.nesting + 1; text = s.text ++ b ∷ [] }) (refused NotJson s)

-- The parser's state after a closing bracket in a value.
abbrev pub less_deep : State → ℕ → State
less_deep s b = record s { nesting = s.nesting - 1; text = s.text ++ b ∷ [] }

abbrev pub shallower : Name → State → ℕ → State
shallower name s b =
    cond (s.nesting == 0) (refused NotJson s)
    (cond (s.nesting == 1 && is_plain name) (object_ended name (less_deep s b)) (less_deep s b))

-- The parser's state after white space in a value. The parser drops white space before a value, and replaces white
-- space inside a value by a blank.
abbrev pub spaced : State → State
spaced s = cond (length s.text == 0) s (added 32 s)

abbrev pub in_value : Name → State → ℕ → State
in_value name s b =
    cond (is_space b) (spaced s)
    (cond (s.nesting == 0 && (b == 44 || b == 125)) (value_ended name s b)
    (cond (b == 34) (at (Quoted name) (added b s))
    (cond (b == 123 || b == 91) (deeper s b)
    (cond (b == 125 || b == 93) (shallower name s b) (added b s)))))

abbrev pub in_quoted : Name → State → ℕ → State
in_quoted name s b =
    cond (b == 34) (at (Value name) (added b s)) (cond (b == 92) (at (Escaped name) (added b s)) (added b s))

abbrev pub in_escaped : Name → State → ℕ → State
in_escaped name s b = at (Quoted name) (added b s)

-- ---- entries of documents

-- The parser's state after reading the first byte b of a member's value. The parser reads the byte b in the state s.
abbrev pub in_begun : Place → State → ℕ → State
in_begun Start s b = moved_between Start s b
in_begun Begin s b = moved_between Begin s b
in_begun Sign s b = moved_between Sign s b
in_begun Between s b = moved_between Between s b
in_begun Item s b = moved_between Item s b
in_begun NextItem s b = moved_between NextItem s b
in_begun AfterItem s b = moved_between AfterItem s b
in_begun Member s b = moved_between Member s b
in_begun NextMember s b = moved_between NextMember s b
in_begun AfterMember s b = moved_between AfterMember s b
in_begun Key s b = moved_between Key s b
in_begun KeyEscape s b = moved_between KeyEscape s b
in_begun (Colon name) s b = moved_between (Colon name) s b
in_begun (Ahead name) s b = moved_between (Ahead name) s b
in_begun ListPlace s b = moved_between ListPlace s b
in_begun (Value name) s b = in_value name s b
in_begun (Quoted name) s b = moved_between (Quoted name) s b
in_begun (Escaped name) s b = moved_between (Escaped name) s b
in_begun (Revs place) s b = moved_between (Revs place) s b
in_begun (Line place) s b = moved_between (Line place) s b
in_begun (Refused why) s b = moved_between (Refused why) s b

abbrev pub begun_in : State → ℕ → State
begun_in s b = in_begun s.place s b

abbrev pub at_ahead : Name → State → ℕ → State
at_ahead name s b =
    cond (is_space b) s
    (cond (b == 123) (entry_opened s) (cond s.diff (refused NoAnswer s) (begun_in (begun_as name s) b)))
