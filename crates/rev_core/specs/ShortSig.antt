-- Defines how a short signature is stored in two 64-bit integers.
use Rattle.std.specs.Prelude.{ℕ, ◌+◌, ◌/◌, ◌%◌, Bool, ◌&&◌, ◌||◌, List, ◌++◌, length, take, map, ◌==◌, nat_le, nat_lt, if◌then◌else◌}
use Rattle.std.specs.List.{list_all}
use Rattle.std.specs.Int.{to_le_bytes, w64}

-- Whether b is a digit or a letter from `a` to `f`.
abbrev pub is_hex_digit : ℕ → Bool
is_hex_digit b = nat_le 48 b && nat_le b 57 || nat_le 97 b && nat_le b 102

-- The hexadecimal digit of a value below 16.
abbrev pub digit_of : ℕ → ℕ
digit_of value = if nat_lt value 10 then value + 48 else value + 87

-- The hexadecimal digits of a list of bytes: first the high digits of all bytes, and then the low digits of all bytes.
abbrev pub digits_of : List ℕ → List ℕ
digits_of bytes = map (λ b. digit_of (b / 16)) bytes ++ map (λ b. digit_of (b % 16)) bytes

-- Whether a signature is short: it has 32 lower-case hexadecimal digits, or it has at most 16 bytes.
abbrev pub is_short : List ℕ → Bool
is_short text = if length text == 32 then list_all is_hex_digit text else nat_le (length text) 16

-- The sixteen bytes of two 64-bit integers: the bytes of `front`, then the bytes of `back`. The bytes of an integer
-- begin with the least significant byte.
unfoldable pub bytes_in : ℕ → ℕ → List ℕ
bytes_in front back = to_le_bytes w64 front ++ to_le_bytes w64 back

-- The signature that the 16 bytes of the integers `front` and `back` encode (`bytes_in`). If `len` is 0, the signature
-- is the 32 hexadecimal digits of the 16 bytes of `front` and `back`. If `len` is not 0, the signature is the first
-- `len` of the 16 bytes of `front` and `back`.
abbrev pub text_in : ℕ → ℕ → ℕ → List ℕ
text_in len front back = if len == 0 then digits_of (bytes_in front back) else take len (bytes_in front back)
