-- This file compares the states of two parsers that read the same long document. The parser with the *full* state
-- stores every byte. The parser with the *stored* state passes on some string bytes without storing them. The stored
-- state equals the full state, except that its text lacks the bytes that the parser did not store.
use Rattle.std.specs.Prelude.{◌≡◌, ℕ, ◌≤◌, ◌==◌, length, slice_index, List, ◌++◌, Bool, true, false}
use Rattle.doc_envelope.specs.Names.{is_log}
use Rattle.response_parser.specs.Names.{is_plain}
use Rattle.response_parser.specs.State.{State}
use Rattle.response_parser.specs.Steps.{is_refused}
use Rattle.response_parser.specs.Fronts.{Cut, HasWritten, IsCut, IsStart, long}
use Rattle.response_parser.specs.declared.place.Place.{Place}
use Rattle.response_parser.specs.declared.place.Place.TheVariants.{Start, Begin, Sign, Between, Item, NextItem, AfterItem, Member, NextMember, AfterMember, Key, KeyEscape, Colon, Ahead, List as ListPlace, Value, Quoted, Escaped, Revs, Line, Refused}
use Rattle.response_parser.specs.declared.place.Name.{Name}
use Rattle.response_parser.specs.declared.place.Name.TheVariants as names
use Rattle.response_parser.specs.declared.place.Found.TheVariants.{Nothing}

-- Whether the parser, at the given place in the grammar, makes no use of its stored text.
abbrev pub is_idle : Place → Bool
is_idle Start = false
is_idle Begin = false
is_idle Sign = false
is_idle Between = true
is_idle Item = true
is_idle NextItem = true
is_idle AfterItem = true
is_idle Member = true
is_idle NextMember = true
is_idle AfterMember = true
is_idle Key = false
is_idle KeyEscape = false
is_idle (Colon name) = false
is_idle (Ahead name) = false
is_idle ListPlace = false
is_idle (Value name) = false
is_idle (Quoted name) = false
is_idle (Escaped name) = false
is_idle (Revs place) = false
is_idle (Line place) = false
is_idle (Refused why) = true

-- The states a and b of a parser are equal, or differ only in a stored text that the parser does not use.
pub data Like (a b : State) : Type 0 where
  equal : a ≡ b → Like a b
  alike : a ≡ record b { text = a.text } → is_idle b.place ≡ true → Like a b

-- Whether the value of a member may be a document, given the kind of the member. The parser decides at the end of the
-- value whether the value is a document.
abbrev pub is_document : Name → Bool
is_document names.Plain = true
is_document names.Item = false
is_document names.Document = true
is_document names.Id = false
is_document names.List = false
is_document names.Docs = false
is_document names.Changes = false
is_document names.Rev = false
is_document names.Missing = false
is_document names.Passed = false
is_document names.Last = false
is_document names.Seq = false
is_document names.Error = false
is_document names.Reason = false
is_document names.Other = false
is_document names.Foreign = false

-- The parser is in the value of a member of the kind `name`: outside of strings, in a string, or after a backslash in a
-- string.
pub data IsWithin (name : Name) : Place → Type 0 where
  in_value : IsWithin name (Value name)
  in_string : IsWithin name (Quoted name)
  in_escape : IsWithin name (Escaped name)

-- In state s, the parser is in a document, which it recognized by a member of the kind `name` (`is_document`). The
-- parser need not store the next string bytes of the document.
pub record InDocument (name : Name) (s : State) : Type 0 where
  pub document : is_document name ≡ true
  pub object : slice_index s.text 0 ≡ 123
  pub nested : is_plain name ≡ true → (s.nesting == 0) ≡ false
  pub found : s.found ≡ Nothing

-- Two parsers with the states `full` and `stored` have read the same part of a document. The parser with the state
-- `full` stores each byte. The parser with the state `stored` may omit string bytes from its stored text. The states
-- `full` and `stored` differ only in their texts. The text of `full` begins with `cut.full`. The text of `stored`
-- begins with `cut.stored`, the stored bytes of `cut.full`. After the beginnings `cut.full` and `cut.stored`, the texts
-- of `full` and `stored` are the same.
pub record Mirrors (cut : Cut) (name : Name) (full stored : State) : Type 0 where
  pub place : IsWithin name stored.place
  pub same : full ≡ record stored { text = full.text }
  pub document : InDocument name stored
  pub behind : List ℕ
  pub full_text : full.text ≡ cut.full ++ behind
  pub stored_text : stored.text ≡ cut.stored ++ behind
  pub begun : IsCut stored.wanted cut
  pub starts : IsStart stored.wanted cut.stored cut.front
  pub full_length : long ≤ length cut.full
  pub stored_length : long ≤ length cut.stored
  pub log : is_plain name ≡ true → is_log cut.stored ≡ false

-- A parser has rejected a byte of a document, after a part of the document's output was written. The state `full` is
-- the state of a parser that stores each byte. The state `stored` is the state of a parser that may omit string bytes
-- from its stored text.
pub record Rejected (cut : Cut) (full stored : State) : Type 0 where
  pub like : Like full stored
  pub refused : is_refused stored.place ≡ true
  pub found : stored.found ≡ Nothing
  pub written : HasWritten full cut.written
