-- The result of reading a complete text.
use Rattle.proof_prelude.proofs.{◌≡◌, ℕ, ◌<◌, List, [], ◌∷◌, length, Option, Some, option_and_then, ap, ◌∙◌, arith}
use Rattle.json.specs.Token.{Token}
use Rattle.json.specs.Lex.{lex, punctuate, tokens}
use Rattle.json.specs.Json.{Json, if_last, value}
use Rattle.serde_json.specs.Data.{Data}
use Rattle.serde_json.specs.Read.{of_json, converted, max_depth, read}
use Rattle.json_values.proofs.Conversions.{behind}

abbrev whole : Option (Json × List Token) → Option Data
whole o = option_and_then of_json (option_and_then (λ p. if_last p.0 p.1) o)

pub read-all : (text : List ℕ) (d : Data) → converted of_json (value max_depth (tokens text)) ≡ Some (d, []) → read text ≡ Some d
read-all text d e = let j = behind of_json (value max_depth (tokens text)) d [] e in ap whole j.1 ∙ j.2

-- a text that has tokens is not empty
pub some_text : (text : List ℕ) → 0 < length (tokens text) → 0 < length text
some_text [] some = unfold lex punctuate in some
some_text (c ∷ text) some = unfold lex punctuate in omega arith
