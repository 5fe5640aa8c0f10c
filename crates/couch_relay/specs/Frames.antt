-- Defines the bytes of a response: a head, a line feed, and the body, as specified in docs/PROFILE.md, "Responses to
-- the relay".
use Rattle.std.specs.Prelude.{◌≡◌, ◌==◌, ◌<◌, ◌^◌, ℕ, Bool, false, if◌then◌else◌, List, ◌∷◌, ◌++◌, Option, None, Some, codes, length, bytes_eq}
use Rattle.std.specs.List.{before_first, after_first}
use Rattle.std.specs.Str.{IsUtf8, trim}
use Rattle.std.specs.Str.Parse.{IsNumeral, digits_value, without_leading_plus}
use Rattle.script_engine.specs.Lines.{has_line_end}
use Rattle.relay_core.specs.declared.messages.Side.{Side}
use Rattle.relay_core.specs.declared.messages.Side.TheVariants.{Source, Target}
use Rattle.relay_core.specs.Messages.{Text}

-- ---- head of a response

pub record HeadView : Type 0 where
  pub status : ℕ
  -- The length of the response's body in bytes, as stated in the response's head.
  pub size : ℕ
  pub who : Option Side
  pub date : Text

abbrev pub is_space : ℕ → Bool
is_space b = b == 32

-- The part of a text before the text's first space.
abbrev pub word_in : Text → Text
word_in text = before_first is_space text

-- The part of a text after the text's first space.
abbrev pub rest_in : Text → Text
rest_in text = after_first is_space text

-- The text consists of an optional plus sign and the decimal digits of the number n, which has at most `bits` bits.
abbrev pub IsNumber : ℕ → Text → ℕ → Type 0
IsNumber bits text n =
    IsNumeral 10 (without_leading_plus text) × (digits_value 10 (without_leading_plus text) < 2 ^ bits)
    × (n ≡ digits_value 10 (without_leading_plus text))

-- The server with the given name, `source` or `target`.
abbrev pub side_in : Text → Option Side
side_in name =
    if bytes_eq name (codes "source") then Some Source else if bytes_eq name (codes "target") then Some Target else None

-- The line is the head of a response, `STATUS BYTES WHO DATE`, in UTF-8.
pub record IsHead (line : Text) (head : HeadView) : Type 0 where
  pub text : IsUtf8 line
  pub status : IsNumber 16 (word_in line) head.status
  pub size : IsNumber 64 (word_in (rest_in line)) head.size
  pub who : head.who ≡ side_in (word_in (rest_in (rest_in line)))
  pub date : head.date ≡ trim (rest_in (rest_in (rest_in line)))

-- ---- a response

-- The list `bytes` consists of the list `line`, then a line feed, and then the list `rest`. The list `line` has no line
-- feed.
pub record IsLine (bytes line rest : List ℕ) : Type 0 where
  pub is : bytes ≡ line ++ 10 ∷ rest
  pub one : has_line_end line ≡ false

-- The bytes `bytes` are a response with the head `head` and the body `body`.
pub record IsFrame (bytes : List ℕ) (head : HeadView) (body : List ℕ) : Type 0 where
  pub line : Text
  pub parts : IsLine bytes line body
  pub head_is : IsHead line head
  pub size_is : length body ≡ head.size

-- The bytes `bytes` do not begin with a complete response. Either the input ended within a head or a body, or the first
-- line is not a head.
pub data NoFrame (ended : Type 0) (bytes : List ℕ) : Type 0 where
  cut_head : ended → has_line_end bytes ≡ false → NoFrame ended bytes
  bad_head : (line rest : List ℕ) → IsLine bytes line rest → ((head : HeadView) → ¬ IsHead line head) → NoFrame ended bytes
  cut_body : (line rest : List ℕ) (head : HeadView) → ended → IsLine bytes line rest → IsHead line head → length rest < head.size → NoFrame ended bytes
