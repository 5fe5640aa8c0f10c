-- Defines the text of revisions and sequences in journal lines, and how a line is split after a prefix or at a blank.
use Rattle.std.specs.Prelude.{ℕ, ◌+◌, Bool, ◌&&◌, ◌||◌, ◌==◌, not, nat_le, nat_lt, if◌then◌else◌, List, length, take, drop, Option, None, Some, bytes_eq}
use Rattle.std.specs.List.{list_all, position}
use Rattle.std.specs.Str.{is_utf8}
use Rattle.json.specs.Print.{quoted}

-- Whether a byte is a letter, a digit, `-`, `_` or `.`.
abbrev pub is_plain_byte : ℕ → Bool
is_plain_byte b =
    nat_le 97 b && nat_le b 122 || nat_le 65 b && nat_le b 90 || nat_le 48 b && nat_le b 57 || b == 45 || b == 95 || b == 46

-- A revision in a line: unchanged if all its bytes are letters, digits, `-`, `_` or `.`, otherwise as a JSON string.
abbrev pub rev_text : List ℕ → List ℕ
rev_text rev = if list_all is_plain_byte rev then rev else quoted rev

-- Whether a byte is a printable ASCII character other than a blank, a quotation mark and a backslash.
abbrev pub is_token_byte : ℕ → Bool
is_token_byte b = nat_le 33 b && nat_le b 126 && not (b == 34) && not (b == 92)

-- Whether a text is a sequence: one or more printable ASCII characters, without blanks, quotation marks and
-- backslashes.
abbrev pub is_token : List ℕ → Bool
is_token text = nat_lt 0 (length text) && list_all is_token_byte text

-- The given bytes as text, if they are UTF-8.
abbrev pub text_in : List ℕ → Option (List ℕ)
text_in bytes = if is_utf8 bytes then Some bytes else None

-- The bytes after a prefix, if the given bytes begin with the prefix.
abbrev pub after : List ℕ → List ℕ → Option (List ℕ)
after prefix bytes = if bytes_eq (take (length prefix) bytes) prefix then Some (drop (length prefix) bytes) else None

abbrev pub is_blank : ℕ → Bool
is_blank b = b == 32

abbrev pub cut_at : List ℕ → Option ℕ → Option (List ℕ × List ℕ)
cut_at bytes None = None
cut_at bytes (Some i) = Some (take i bytes, drop (i + 1) bytes)

-- The bytes before and after the first blank of the given bytes.
abbrev pub cut_at_blank : List ℕ → Option (List ℕ × List ℕ)
cut_at_blank bytes = cut_at bytes (position is_blank bytes)
