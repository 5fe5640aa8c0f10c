-- This file defines how an escape in a JSON string is decoded, and how the lexer skips an escape.
use Rattle.std.specs.Prelude.{◌≡◌, ℕ, ◌+◌, ◌-◌, ◌<◌, ◌≤◌, get_or, None, MatchOption, List, length, drop, Option}
use Rattle.std.specs.Char.{encode_utf8, len_utf8}
use Rattle.json.specs.Text.{Within, content, plain, after_backslash, after_u, after_high, prepend}
use Rattle.json.specs.Lex.{Mode, in_string, in_escape, lex}

-- The state of the lexer inside a string.
abbrev pub mode : Within → Mode
mode plain = in_string
mode after_backslash = in_escape
mode after_u = in_string
mode (after_high h) = in_string

-- The rest of an escape, from index i of the text d on, gives the pair r: a character, and the index after the escape.
-- If r is `None`, the string's content from index i on is invalid. The rest of the escape has at least as many bytes as
-- the character. The lexer skips the rest of the escape, and continues inside the string.
abbrev pub Escape : List ℕ → Within → ℕ → Option (ℕ × ℕ) → Type 0
Escape d within i r =
    MatchOption r (content within (drop i d) ≡ None) (λ p.
    (content within (drop i d) ≡ prepend (encode_utf8 p.0) (content plain (drop p.1 d))) × (i < p.1) × (p.1 ≤ length d) × (i + len_utf8 p.0 ≤ p.1) × (get_or d (p.1 - 1) 0 < 128)
    × (lex (mode within) (drop i d) ≡ lex in_string (drop p.1 d)))
