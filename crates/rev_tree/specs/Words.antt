-- Defines the integer that the first bytes of a string represent in big-endian order.
use Rattle.std.specs.Prelude.{ℕ, zero, suc, ◌+◌, ◌*◌, ◌^◌, List, [], ◌∷◌}

-- The first n bytes of a string as a big-endian integer. If the string has fewer bytes than the number n, zero bytes
-- are appended to the string.
abbrev pub front_of : ℕ → List ℕ → ℕ
front_of zero text = 0
front_of (suc n) [] = 0
front_of (suc n) (b ∷ text) = b * 256 ^ n + front_of n text
