-- Defines the items that the parser finds in a list of bytes, as specified in docs/PROFILE.md, "CouchDB's answers".
use Rattle.std.specs.Prelude.{ℕ, List, [], ◌∷◌, ◌++◌, Bool, true, false, cond, ◌||◌, Result, Ok, Err}
use Rattle.response_parser.specs.State.{State}
use Rattle.response_parser.specs.Steps.{step, is_refused}
use Rattle.response_parser.specs.declared.place.Place.{Place}
use Rattle.response_parser.specs.declared.place.Place.TheVariants.{Start, Begin, Sign, Between, Item, NextItem, AfterItem, Member, NextMember, AfterMember, Key, KeyEscape, Colon, Ahead, List as ListPlace, Value, Quoted, Escaped, Revs, Line, Refused}
use Rattle.response_parser.specs.declared.place.Refusal.{Refusal}
use Rattle.response_parser.specs.declared.place.Refusal.TheVariants.{NoAnswer, CutOff}
use Rattle.response_parser.specs.declared.place.Found.{Found}
use Rattle.response_parser.specs.declared.place.Found.TheVariants.{Nothing, Document, Id, Rev}

-- The parser's state after it has read the given bytes.
abbrev pub after : State → List ℕ → State
after s [] = s
after s (b ∷ bytes) = after (step s b) bytes

-- An item that the parser found: its kind, such as a document or an id, and its text.
abbrev pub Piece : Type 0
Piece = Found × List ℕ

abbrev pub piece_of : Found → List ℕ → List Piece
piece_of Nothing text = []
piece_of Document text = (Document, text) ∷ []
piece_of Id text = (Id, text) ∷ []
piece_of Rev text = (Rev, text) ∷ []

-- The item that the parser's last byte completed, if there is one.
abbrev pub given : State → List Piece
given s = piece_of s.found s.text

abbrev pub is_piece : Found → Bool
is_piece Nothing = false
is_piece Document = true
is_piece Id = true
is_piece Rev = true

-- Whether the parser stops after a byte, because an item is complete or the byte was rejected.
abbrev pub stops : State → Bool
stops s = is_piece s.found || is_refused s.place

-- The items that the parser finds in the given bytes, in order.
abbrev pub pieces : State → List ℕ → List Piece
pieces s [] = []
pieces s (b ∷ bytes) = given (step s b) ++ pieces (step s b) bytes

-- The result if the input ends at the given place in the grammar: success if the input may end at this place, otherwise
-- an error.
abbrev pub end_of : Place → Result (Unit {0}) Refusal
end_of Start = Err NoAnswer
end_of Begin = Ok tt
end_of Sign = Err NoAnswer
end_of Between = Ok tt
end_of Item = Err CutOff
end_of NextItem = Err CutOff
end_of AfterItem = Err CutOff
end_of Member = Err CutOff
end_of NextMember = Err CutOff
end_of AfterMember = Err CutOff
end_of Key = Err CutOff
end_of KeyEscape = Err CutOff
end_of (Colon name) = Err CutOff
end_of (Ahead name) = Err CutOff
end_of ListPlace = Err CutOff
end_of (Value name) = Err CutOff
end_of (Quoted name) = Err CutOff
end_of (Escaped name) = Err CutOff
end_of (Revs place) = Err CutOff
end_of (Line place) = Err CutOff
end_of (Refused why) = Err why

-- Whether the parser's place in the grammar is within a line of a script's output.
abbrev pub has_rest : Place → Bool
has_rest Start = false
has_rest Begin = false
has_rest Sign = false
has_rest Between = false
has_rest Item = false
has_rest NextItem = false
has_rest AfterItem = false
has_rest Member = false
has_rest NextMember = false
has_rest AfterMember = false
has_rest Key = false
has_rest KeyEscape = false
has_rest (Colon name) = false
has_rest (Ahead name) = false
has_rest ListPlace = false
has_rest (Value name) = false
has_rest (Quoted name) = false
has_rest (Escaped name) = false
has_rest (Revs place) = false
has_rest (Line place) = true
has_rest (Refused why) = false

-- A line end if the input ends within a line of a script's output, otherwise the empty list.
abbrev pub last_end : State → List ℕ
last_end s = cond (has_rest s.place) (10 ∷ []) []

abbrev pub whole : State → List ℕ → List ℕ
whole s input = input ++ last_end (after s input)
