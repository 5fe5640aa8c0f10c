-- Defines which envelopes have exactly the text that the crate `json` prints for the envelope's parsed value.
use Rattle.std.specs.Prelude.{◌≡◌, ℕ, ◌≤◌, ◌<◌, List, [], ◌∷◌, ◌++◌, codes, true, Some}
use Rattle.std.specs.Str.{IsUtf8}
use Rattle.json.specs.Json.{Json, max_depth}
use Rattle.json.specs.Token.{key}
use Rattle.json.specs.Print.{print, token_text, quoted, escape, IsNumber}
use Rattle.json.specs.Tree.{json_tokens, depth, HasNumbers}
use Rattle.doc_envelope.specs.Envelopes.{is_envelope_value, may_stand}

-- The text t is what the crate `json` prints for the value of an envelope.
pub record IsPrinted (t : List ℕ) : Type 0 where
  pub utf8 : IsUtf8 t
  pub value : Json
  pub numbers : HasNumbers value
  pub nests : depth value ≤ max_depth
  pub text : t ≡ print (json_tokens value)
  pub envelope : is_envelope_value (Some value) ≡ true

-- The text t is what the crate `json` prints for a JSON value whose nesting depth is below `max_depth`.
pub record IsPrintedValue (t : List ℕ) : Type 0 where
  pub utf8 : IsUtf8 t
  pub value : Json
  pub numbers : HasNumbers value
  pub nests : depth value < max_depth
  pub text : t ≡ print (json_tokens value)

-- The text m is a member that an envelope may have, as the crate `json` prints the member.
pub record IsPrintedMember (m : List ℕ) : Type 0 where
  pub utf8 : IsUtf8 m
  pub name : List ℕ
  pub value : Json
  pub numbers : HasNumbers value
  pub nests : depth value < max_depth
  pub text : m ≡ token_text (key name) ++ print (json_tokens value)
  pub stands : may_stand name value ≡ true

-- The text t is in UTF-8, and has the form of a JSON number in RFC 8259.
pub record IsDigits (t : List ℕ) : Type 0 where
  pub utf8 : IsUtf8 t
  pub number : IsNumber t

-- The text t begins with a string, as the crate `json` prints strings, and continues with the text `rest`.
pub record BeginsWithString (t rest : List ℕ) : Type 0 where
  pub string : List ℕ
  pub utf8 : IsUtf8 string
  pub text : t ≡ quoted string ++ rest

-- The text consists of strings as the crate `json` prints them, separated by commas, and ends with the bytes `]}`.
pub data AreIds : List ℕ → Type 0 where
  last_id : {s : List ℕ} → IsUtf8 s → AreIds (quoted s ++ 93 ∷ 125 ∷ [])
  more_ids : {s t : List ℕ} → IsUtf8 s → AreIds t → AreIds (quoted s ++ 44 ∷ t)

-- The text t is a number, a comma, a member `ids` whose value is a list of strings, and a closing brace, in this order.
pub record IsStarted (t : List ℕ) : Type 0 where
  pub digits : List ℕ
  pub ids : List ℕ
  pub number : IsDigits digits
  pub strings : AreIds ids
  pub text : t ≡ digits ++ (codes ",\"ids\":[" ++ ids)

-- The text t is a JSON string, including its quotation marks, as the crate `json` prints it.
pub record IsQuoted (t : List ℕ) : Type 0 where
  pub utf8 : IsUtf8 t
  pub string : List ℕ
  pub text : t ≡ quoted string

-- The text t is what the crate `json` prints for a string, without the opening quotation mark.
pub record EndsPrinted (t : List ℕ) : Type 0 where
  pub string : List ℕ
  pub text : t ≡ escape string ++ 34 ∷ []

-- The text t has two parts: a member that an envelope may have, as the crate `json` prints the member, and a closing
-- brace.
pub record EndsEnvelope (t : List ℕ) : Type 0 where
  pub member : List ℕ
  pub printed : IsPrintedMember member
  pub text : t ≡ member ++ 125 ∷ []
