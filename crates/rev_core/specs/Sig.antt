-- Defines the syntax of signatures, as specified in docs/PROFILE.md, "Revision id text".
use Rattle.std.specs.Prelude.{◌≡◌, ℕ, ◌-◌, ◌≤◌, Bool, true, ◌&&◌, ◌||◌, List, ◌++◌, length, take, replicate, ◌==◌, nat_le, Result, Ok, Err, if◌then◌else◌}
use Rattle.std.specs.List.{list_all}
use Rattle.rev_core.specs.declared.fault.RevFault.{RevFault}
use Rattle.rev_core.specs.declared.fault.RevFault.TheVariants as faults

-- Whether b is an ASCII letter, a digit, `-`, `_` or `.`.
abbrev pub is_sig_byte : ℕ → Bool
is_sig_byte b =
    nat_le 97 b && nat_le b 122 || nat_le 65 b && nat_le b 90 || nat_le 48 b && nat_le b 57 || b == 45 || b == 95
    || b == 46

-- Whether a string is a signature: 1 to 64 bytes, each an ASCII letter, a digit, `-`, `_` or `.`.
abbrev pub is_sig : List ℕ → Bool
is_sig text = nat_le 1 (length text) && nat_le (length text) 64 && list_all is_sig_byte text

-- The result of parsing a string as a signature: the string itself, or the error `BadSig` if the string is not a
-- signature.
abbrev pub sig_read : List ℕ → Result (List ℕ) RevFault
sig_read text = if is_sig text then Ok text else Err faults.BadSig

-- The string, followed by bytes of value 0 up to a length of 64 bytes.
abbrev pub padded : List ℕ → List ℕ
padded text = text ++ replicate (64 - length text) 0

-- The first `len` bytes of an array of 64 bytes are a signature, and all other bytes of the array are zero.
pub record IsStored (bytes : List ℕ) (len : ℕ) : Type 0 where
  pub size : length bytes ≡ 64
  pub fits : len ≤ 64
  pub sig : is_sig (take len bytes) ≡ true
  pub zeros : bytes ≡ padded (take len bytes)
