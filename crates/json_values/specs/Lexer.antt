-- Defines the state of the lexer in contracts: the JSON text from the next lexeme on, and the flags of `PlainTexts`.
-- One flag of `PlainTexts` says whether all names of members are known to need no escapes. Another flag says whether
-- all other strings are known to need no escapes.
use Rattle.std.specs.Prelude.{◌≡◌, ℕ, ◌+◌, ◌≤◌, ◌==◌, Bool, List, length, drop, get_or, true}
use Rattle.std.specs.List.{list_any}
use Rattle.std.specs.Str.{IsUtf8}
use Rattle.json.specs.Lex.{class}
use Rattle.json.specs.Align.{is_blank}
use Rattle.json_values.specs.Left.{TextLeft}
use Rattle.json_values.specs.declared.lexer.Lexer.TheInside.{Inside}

abbrev pub lexer_view : Inside → TextLeft
lexer_view a = record { text = drop a.at a.text.now; plain = a.plain }

-- Whether a JSON text has a backslash, and may therefore have strings with escapes.
abbrev pub has_backslash : List ℕ → Bool
has_backslash text = list_any (λ c. c == 92) text

pub record IsLexer (a : Inside) : Type 0 where
  pub utf8 : IsUtf8 a.text.now
  pub within : a.at ≤ length a.text.now
  -- At the lexer's current position, the text has no blank.
  pub solid : is_blank (class (get_or a.text.now a.at 32)) ≡ true → a.at ≡ length a.text.now
  -- If the text has a backslash, the buffer is at least as long as the remaining text.
  pub room : has_backslash a.text.now ≡ true → length a.text.now ≤ length a.room.now + a.at
