-- Numbers that are not floats, by the result of their conversions.
use Rattle.proof_prelude.proofs.{◌≡◌, ℕ, ℤ, pos, negsuc, true, Some, None, int_lt, SFits, w64, arith, signed_decimal}
use Rattle.serde_json.specs.Data.{Num, unsigned, negative}
use Rattle.serde_json.specs.Find.{as_u64, as_i64}
use Rattle.serde_json.specs.Number.{is_valid, num_of}
use Rattle.serde_json.specs.Read.{number_of}
use Rattle.serde_json.specs.declared.number.N.{N}
use Rattle.serde_json.specs.declared.number.N.TheVariants.{PosInt, NegInt, Float}
use Rattle.serde_json.proofs.Numbers.{number_of-negative}

pub is_unsigned : (x : Num) (n : ℕ) → as_u64 x ≡ Some n → x ≡ unsigned n
is_unsigned (unsigned m) n e = cc
is_unsigned _ n e = cc

-- a number that is neither unsigned nor a float is negative
pub is_below_zero : (x : N) (z : ℤ) → is_valid x ≡ true → as_i64 (num_of x) ≡ Some z → as_u64 (num_of x) ≡ None → (num_of x ≡ negative z) × (int_lt z (pos 0) ≡ true)
is_below_zero (PosInt n) z valid e none = cc
is_below_zero (NegInt y) z valid e none = (cc, cc)
is_below_zero (Float x) z valid e none = cc

pub below_zero : (z : ℤ) → int_lt z (pos 0) ≡ true → SFits w64 z → number_of (signed_decimal z) ≡ Some (negative z)
below_zero (pos n) e fits = absurd (grind arith)
below_zero (negsuc n) e fits = number_of-negative n (grind arith)
