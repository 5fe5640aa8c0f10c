-- Defines the state of the parser, as specified in docs/PROFILE.md, "CouchDB's answers".
use Rattle.std.specs.Prelude.{ℕ, ◌+◌, ◌++◌, nat_lt, List, [], ◌∷◌, Bool, false, cond}
use Rattle.response_parser.specs.Wanted.{first_place}
use Rattle.response_parser.specs.declared.place.Place.{Place}
use Rattle.response_parser.specs.declared.place.Place.TheVariants.{Refused}
use Rattle.response_parser.specs.declared.place.Refusal.{Refusal}
use Rattle.response_parser.specs.declared.place.Wanted.{Wanted}
use Rattle.response_parser.specs.declared.place.Found.{Found}
use Rattle.response_parser.specs.declared.place.Found.TheVariants.{Nothing}

-- The state of the parser between two bytes of input.
pub record State : Type 0 where
  pub wanted : Wanted
  pub place : Place
  -- Whether the parser has already read the closing bracket of a list or an object in the input.
  pub some : Bool
  -- The number of lists and objects that are open at the parser's position.
  pub depth : ℕ
  -- Whether the innermost open object has a known member, such as `ok` or `results`. An object without a known member
  -- causes the error `NoDocument` if the parser is strict (`is_strict`). A parser that is not strict skips an object
  -- without a known member.
  pub known : Bool
  -- Whether the innermost open object has a member with a document id.
  pub named : Bool
  -- Whether the parser's last name is the first name of its object.
  pub first : Bool
  -- Whether the innermost open list is a document's list of revisions, or the list `docs` of an outermost object.
  pub inner : Bool
  -- Whether the current response is a response of `_revs_diff`.
  pub diff : Bool
  -- Whether the parser has read a member `error` with a string. The field `failed` becomes false when the parser enters
  -- or leaves a list or object that it searches.
  pub failed : Bool
  -- The number of brackets that are open within the parser's current value.
  pub nesting : ℕ
  -- The stored bytes of the parser's current name or value. After a name or value has ended, its stored text is
  -- complete, except for string bytes of a long document that were not stored.
  pub text : List ℕ
  -- The text of CouchDB's error. The text is the value of the last member `error` that the parser has read.
  pub error : List ℕ
  -- The kind of item that the parser's last byte completed.
  pub found : Found
  -- The number of skipped entries: objects without documents, other values (such as errors) instead of documents, and a
  -- script's output lines that begin with `refused`.
  pub passed : ℕ
  -- The number of bytes that the parser has read.
  pub taken : ℕ

-- The initial state of the parser for a kind of request.
abbrev pub start : Wanted → State
start wanted = record {
  wanted = wanted;
  place = first_place wanted;
  some = false;
  depth = 0;
  known = false;
  named = false;
  first = false;
  inner = false;
  diff = false;
  failed = false;
  nesting = 0;
  text = [];
  error = [];
  found = Nothing;
  passed = 0;
  taken = 0;
}

-- The count n increased by one, or n itself if n is the maximum 2 ^ 64 - 1.
abbrev pub more : ℕ → ℕ
more n = cond (nat_lt n 18446744073709551615) (n + 1) n

-- ---- effects of a byte

abbrev pub at : Place → State → State
at place s = record s { place = place }

abbrev pub refused : Refusal → State → State
refused why s = record s { place = Refused why }

abbrev pub added : ℕ → State → State
added b s = record s { text = s.text ++ b ∷ [] }
