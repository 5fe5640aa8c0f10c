-- Defines how the parser's state changes if the parser reads several bytes of a value at once.
use Rattle.std.specs.Prelude.{◌≡◌, ℕ, ◌==◌, length, take, List, [], ◌∷◌, ◌++◌, Bool, true, false}
use Rattle.response_parser.specs.State.{State, more}
use Rattle.response_parser.specs.Reading.{after, pieces}
use Rattle.response_parser.specs.declared.place.Place.{Place}
use Rattle.response_parser.specs.declared.place.Place.TheVariants.{Value, Quoted}
use Rattle.response_parser.specs.declared.place.Name.{Name}
use Rattle.response_parser.specs.declared.place.Found.TheVariants.{Nothing}

-- The count n, increased by one (`more`) for each of the given bytes.
abbrev pub more_by : ℕ → List ℕ → ℕ
more_by n [] = n
more_by n (b ∷ bytes) = more_by (more n) bytes

-- The parser's place in the value of a member of the kind `name`. The place is within a string if the Boolean argument
-- is true, and otherwise outside of strings.
abbrev pub in_value_of : Name → Bool → Place
in_value_of name true = Quoted name
in_value_of name false = Value name

-- In state s, the parser is in the value of a member of the kind `name`, and has stored a part of the value. The number
-- of open brackets in the value is `nesting`.
pub record IsInValue (s : State) (name : Name) (quoted : Bool) (nesting : ℕ) : Type 0 where
  pub place : s.place ≡ in_value_of name quoted
  pub nesting_is : s.nesting ≡ nesting
  pub found : s.found ≡ Nothing
  pub begun : (length s.text == 0) ≡ false

-- The parser's state after the given bytes were appended to the current value.
abbrev pub copied : State → List ℕ → Name → Bool → ℕ → State
copied s bytes name quoted nesting =
    record s { place = in_value_of name quoted; nesting = nesting; text = s.text ++ bytes; taken = more_by s.taken bytes }

-- The parser appends the given bytes to the current value, and completes no item.
pub record Copies (s : State) (bytes : List ℕ) (name : Name) (quoted : Bool) (nesting : ℕ) : Type 0 where
  pub state : after s bytes ≡ copied s bytes name quoted nesting
  pub none : pieces s bytes ≡ []

-- If the parser can copy the given bytes up to position `from` into a value, the parser can also copy the bytes up to
-- position `to`. At position `from`, n brackets are open, and q says whether this position is within a string. At
-- position `to`, n' brackets are open, and q' says whether this position is within a string.
abbrev pub Continues : List ℕ → ℕ → Bool → ℕ → ℕ → Bool → ℕ → Type 0
Continues bytes from q n to q' n' =
    (s : State) → (name : Name) → (q0 : Bool) → (n0 : ℕ) → IsInValue s name q0 n0 → Copies s (take from bytes) name q n
    → Copies s (take to bytes) name q' n'
