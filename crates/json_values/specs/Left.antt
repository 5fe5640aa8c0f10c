-- Defines the state of a reader of a JSON text. The state has two parts: the unread text or the unread tokens, and two
-- flags. One flag says whether all names of members are known to need no escapes. Another flag says whether all other
-- strings are known to need no escapes.
use Rattle.std.specs.Prelude.{ℕ, List, refl}
use Rattle.std.specs.Coded.{Coded, code_by, coded×, coded_list, coded_ℕ}
use Rattle.json.specs.Token.{Token, tokens_code}
use Rattle.json_values.specs.declared.plain_texts.PlainTexts.{PlainTexts}
use Rattle.json_values.specs.Plain.{plain_texts_code}

pub record TextLeft : Type 0 where
  pub text : List ℕ
  pub plain : PlainTexts

pub record TokensLeft : Type 0 where
  pub tokens : List Token
  pub plain : PlainTexts

abbrev pub text_left_code : Coded TextLeft
text_left_code = code_by (List ℕ × PlainTexts) (coded× (coded_list coded_ℕ) plain_texts_code) (λ l. (l.text, l.plain)) (λ p. record { text = p.0; plain = p.1 }) (λ _. refl)

abbrev pub tokens_left_code : Coded TokensLeft
tokens_left_code = code_by (List Token × PlainTexts) (coded× tokens_code plain_texts_code) (λ l. (l.tokens, l.plain)) (λ p. record { tokens = p.0; plain = p.1 }) (λ _. refl)
