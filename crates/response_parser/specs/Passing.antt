-- Defines how the parser's state changes when the parser reads string bytes of a long document without storing them.
use Rattle.std.specs.Prelude.{◌≡◌, ◌⊎◌, ℕ, ◌≤◌, ◌==◌, nat_eq, length, List, true, false}
use Rattle.std.specs.List.{starts_with}
use Rattle.doc_envelope.specs.Names.{is_log}
use Rattle.doc_envelope.specs.Streams.{IsRun}
use Rattle.response_parser.specs.Names.{is_plain}
use Rattle.response_parser.specs.State.{State}
use Rattle.response_parser.specs.Runs.{more_by}
use Rattle.response_parser.specs.Fronts.{IsStart, long}
use Rattle.response_parser.specs.Mirrors.{InDocument}
use Rattle.response_parser.specs.declared.place.Place.TheVariants.{Quoted}
use Rattle.response_parser.specs.declared.place.Name.{Name}

-- In state s, the parser is in a long document, which it recognized by a member of the kind `name`.
pub record IsLong (name : Name) (s : State) : Type 0 where
  pub document : InDocument name s
  pub length_is : long ≤ length s.text
  pub log : is_plain name ≡ true → is_log s.text ≡ false

-- After the text of the state s, the parser may read string bytes without storing them. The known beginning of the
-- document's output is `front` before a call of `Front::pass`, and `front'` after the call. If the call keeps `front`,
-- the text `front` is not empty, and was built from the complete text of the state s. If the call computes `front'` as
-- the output for the text of the state s, then `front'` is not empty, and begins with `front`. The text `front` was
-- built from `at` stored bytes, and the text `front'` was built from `at'` stored bytes.
abbrev pub FollowsFront : State → List ℕ → ℕ → List ℕ → ℕ → Type 0
FollowsFront s front at front' at' =
    (((length front == 0) ≡ false) × (length s.text ≡ at) × (front' ≡ front) × (at' ≡ at))
    ⊎ (IsStart s.wanted s.text front' × (starts_with nat_eq front' front ≡ true) × ((length front' == 0) ≡ false)
    × (at' ≡ length s.text))

-- The parser counts the given bytes as read, and does not store them.
pub record Passes (s : State) (bytes : List ℕ) (s' : State) (front : List ℕ) (at : ℕ) (front' : List ℕ) (at' : ℕ) : Type 0 where
  pub name : Name
  pub place : s.place ≡ Quoted name
  pub long_is : IsLong name s
  pub run : IsRun bytes
  pub state : s' ≡ record s { taken = more_by s.taken bytes }
  pub follows : FollowsFront s front at front' at'
