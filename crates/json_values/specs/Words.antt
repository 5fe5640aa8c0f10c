-- Defines the numbers and literals in a JSON text, and the indexes at which they end.
use Rattle.std.specs.Prelude.{◌≡◌, ℕ, ◌-◌, ◌<◌, ◌≤◌, List, ◌++◌, length, take, drop, true, Some, MatchOption, Option}
use Rattle.json.specs.Token.{bad}
use Rattle.json.specs.Token as spec
use Rattle.json.specs.Word.{head, ends_word, after_number}
use Rattle.json.specs.Lex.{class, other, between, lex}
use Rattle.json.specs.Align.{is_good}
use Rattle.json.specs.Reads.{token_of}
use Rattle.json.specs.declared.token.Token.{Token}
use Rattle.serde_json.specs.Data.{Num}
use Rattle.serde_json.specs.Read.{number_of}

-- The number or literal at index i of the text d gives the pair r: a token, and the index at which the lexer continues.
-- If the pair r is `None`, there is no valid number or literal at index i of the text d.
abbrev pub WordAt : List ℕ → ℕ → Option (Token × ℕ) → spec.Token → Type 0
WordAt d i r w =
    MatchOption r (w ≡ bad) (λ p. (w ≡ token_of p.0) × (is_good w ≡ true) × (i < p.1) × (p.1 ≤ length d) × (lex between (drop p.1 d) ≡ drop 1 (lex between (drop i d))))

-- The text `name` is a JSON literal: the lexer reads `name` as one lexeme if a delimiter or the end of the input
-- follows `name`.
abbrev pub IsLiteral : List ℕ → spec.Token → Type 0
IsLiteral name t = (0 < length name) × (is_good t ≡ true) × ((r : List ℕ) → ends_word r ≡ true → lex between r ≡ drop 1 (lex between (name ++ r)))

-- In the text d, the number n begins at index i and ends before index `end`.
pub record IntegerAt (d : List ℕ) (i : ℕ) (n : Num) (end : ℕ) : Type 0 where
  pub within : i < length d
  pub from : i ≤ end
  pub bound : end ≤ length d
  pub first : head (drop i d) < 58
  pub kind : class (head (drop i d)) ≡ other
  pub after : after_number (drop i d) ≡ Some (drop end d)
  pub ended : ends_word (drop end d) ≡ true
  pub number : number_of (take (end - i) (drop i d)) ≡ Some n
