-- Defines the characters that a reader does not see, and the escapes of these characters, as specified in
-- docs/PROFILE.md, "Pictures".
use Rattle.std.specs.Prelude.{◌≡◌, ℕ, ◌+◌, ◌-◌, ◌/◌, ◌%◌, ◌==◌, ◌||◌, nat_lt, List, [], ◌∷◌, ◌++◌, Bool, true, false, if◌then◌else◌}
use Rattle.std.specs.Int.{is_in_range}
use Rattle.std.specs.Char.{digit_char, is_control}
use Rattle.std.specs.List.{flat_map, list_any}

-- The ranges of hidden characters (which are printed only as escapes) above U+009F. The ranges of hidden characters
-- contain format characters, direction marks, line and paragraph separators, and characters that Unicode 15 calls
-- default-ignorable. The ranges of hidden characters also contain U+FFFE and U+FFFF, because XML forbids these two
-- characters.
abbrev pub hidden_ranges : List (ℕ × ℕ)
hidden_ranges =
    (0xAD, 0xAD) ∷ (0x34F, 0x34F) ∷ (0x600, 0x605) ∷ (0x61C, 0x61C) ∷ (0x6DD, 0x6DD) ∷ (0x70F, 0x70F) ∷ (0x890, 0x891)
    ∷ (0x8E2, 0x8E2) ∷ (0x115F, 0x1160) ∷ (0x17B4, 0x17B5) ∷ (0x180B, 0x180F) ∷ (0x200B, 0x200F) ∷ (0x2028, 0x202E)
    ∷ (0x2060, 0x206F) ∷ (0x3164, 0x3164) ∷ (0xFE00, 0xFE0F) ∷ (0xFEFF, 0xFEFF) ∷ (0xFFA0, 0xFFA0) ∷ (0xFFF0, 0xFFFB)
    ∷ (0xFFFE, 0xFFFF) ∷ (0x110BD, 0x110BD) ∷ (0x110CD, 0x110CD) ∷ (0x13430, 0x1343F) ∷ (0x1BCA0, 0x1BCA3)
    ∷ (0x1D173, 0x1D17A) ∷ (0xE0000, 0xE0FFF) ∷ []

-- Whether a character is hidden. A hidden character is printed only as an escape. Hidden characters are the control
-- characters and the characters in `hidden_ranges`.
unfoldable pub is_hidden : ℕ → Bool
is_hidden c = is_control c || list_any (λ r. is_in_range r.0 r.1 c) hidden_ranges

-- A text has no hidden character, that is, no control character and no character in `hidden_ranges`.
abbrev pub IsSeen : List ℕ → Type 0
IsSeen cs = list_any is_hidden cs ≡ false

-- ---- escapes: RFC 8259, section 7

-- The escape of a UTF-16 code unit, which is `\u` and four hexadecimal digits.
abbrev pub unit_of : ℕ → List ℕ
unit_of n =
    92 ∷ 117 ∷ digit_char (n / 4096 % 16) ∷ digit_char (n / 256 % 16) ∷ digit_char (n / 16 % 16) ∷ digit_char (n % 16) ∷ []

-- The escape of a character: one code unit, or the two surrogates of a character above U+FFFF.
abbrev pub escape_of : ℕ → List ℕ
escape_of c =
    if nat_lt c 0x10000 then unit_of c else unit_of (0xD800 + (c - 0x10000) / 1024) ++ unit_of (0xDC00 + c % 1024)

abbrev pub visible_char : ℕ → List ℕ
visible_char c = if is_hidden c then escape_of c else c ∷ []

-- The given text, in which each hidden character is replaced by the character's escape.
abbrev pub visible : List ℕ → List ℕ
visible cs = flat_map visible_char cs

-- The text that represents one character in a JSON string. A hidden character, a quotation mark or a backslash is
-- represented by its escape.
abbrev pub quoted_char : ℕ → List ℕ
quoted_char c = if c == 34 then 92 ∷ 34 ∷ [] else if c == 92 then 92 ∷ 92 ∷ [] else visible_char c

abbrev pub quoted_chars : List ℕ → List ℕ
quoted_chars cs = flat_map quoted_char cs

-- A text as a JSON string, in which hidden characters are escaped.
abbrev pub quoted : List ℕ → List ℕ
quoted cs = 34 ∷ (quoted_chars cs ++ 34 ∷ [])
