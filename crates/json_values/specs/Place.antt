-- Defines the tokens of a JSON text from the reader's position on.
use Rattle.std.specs.Prelude.{◌≡◌, ◌≢◌, ℕ, List, [], ◌∷◌, Bool, true, false, None, ⊤}
use Rattle.json.specs.Token.{Token, bad}
use Rattle.json.specs.Json.{value}
use Rattle.json.specs.Word.{head}
use Rattle.json.specs.Lex.{between, lex, fresh, after_value, after_comma, may_begin, may_close, punctuate}
use Rattle.json.specs.Lex as spec
use Rattle.json_values.specs.declared.tokens.Place.{Place}
use Rattle.json_values.specs.declared.tokens.Place.TheVariants.{Fresh, AfterValue, AfterComma, Failed}

abbrev pub tokens_at : Place → List ℕ → List Token
tokens_at Fresh text = punctuate fresh (lex between text)
tokens_at AfterValue text = punctuate after_value (lex between text)
tokens_at AfterComma text = punctuate after_comma (lex between text)
tokens_at Failed text = []

abbrev pub NotBeforeComma : Place → List ℕ → Type 0
NotBeforeComma Fresh text = ⊤
NotBeforeComma AfterValue text = head text ≢ 44
NotBeforeComma AfterComma text = ⊤
NotBeforeComma Failed text = ⊤

-- If the text `old` is read from a grammar position at which a value or a name may begin, its first token is t. After
-- the token t, the tokens of `old` are the tokens of the text `new`, read from the grammar position `place`.
abbrev pub Begins : List ℕ → Token → Place → List ℕ → Type 0
Begins old t place new = (p : spec.Place) → may_begin p ≡ true → punctuate p (lex between old) ≡ t ∷ tokens_at place new

abbrev pub Closes : List ℕ → Token → Place → List ℕ → Type 0
Closes old t place new = (p : spec.Place) → may_close p ≡ true → punctuate p (lex between old) ≡ t ∷ tokens_at place new

-- Whether the first of the remaining tokens is the name of a member.
abbrev pub begins_key : List Token → Bool
begins_key [] = false
begins_key (Token.begin_object ∷ ts) = false
begins_key (Token.end_object ∷ ts) = false
begins_key (Token.begin_array ∷ ts) = false
begins_key (Token.end_array ∷ ts) = false
begins_key (Token.key s ∷ ts) = true
begins_key (Token.string s ∷ ts) = false
begins_key (Token.number s ∷ ts) = false
begins_key (Token.boolean b ∷ ts) = false
begins_key (Token.null ∷ ts) = false
begins_key (Token.bad ∷ ts) = false

-- Whether the first of the remaining tokens ends an object.
abbrev pub ends_object : List Token → Bool
ends_object [] = false
ends_object (Token.begin_object ∷ ts) = false
ends_object (Token.end_object ∷ ts) = true
ends_object (Token.begin_array ∷ ts) = false
ends_object (Token.end_array ∷ ts) = false
ends_object (Token.key s ∷ ts) = false
ends_object (Token.string s ∷ ts) = false
ends_object (Token.number s ∷ ts) = false
ends_object (Token.boolean b ∷ ts) = false
ends_object (Token.null ∷ ts) = false
ends_object (Token.bad ∷ ts) = false

-- Whether a token can be the result of reading a JSON string.
abbrev pub of_string : Token → Bool
of_string Token.begin_object = false
of_string Token.end_object = false
of_string Token.begin_array = false
of_string Token.end_array = false
of_string (Token.key s) = true
of_string (Token.string s) = true
of_string (Token.number s) = false
of_string (Token.boolean b) = false
of_string Token.null = false
of_string Token.bad = true

-- The tokens ts do not begin with a complete and valid JSON value of any nesting depth.
abbrev pub BeginsNoValue : List Token → Type 0
BeginsNoValue ts = (depth : ℕ) → value depth ts ≡ None

abbrev pub closes_at : Place → Bool
closes_at Fresh = true
closes_at AfterValue = true
closes_at AfterComma = false
closes_at Failed = false

abbrev pub begins_at : Place → Bool
begins_at Fresh = true
begins_at AfterValue = false
begins_at AfterComma = true
begins_at Failed = false

abbrev pub refused_at : Place → List Token
refused_at Fresh = bad ∷ []
refused_at AfterValue = bad ∷ []
refused_at AfterComma = bad ∷ []
refused_at Failed = []
