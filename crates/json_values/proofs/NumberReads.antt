-- Which numeral represents a number's text, and the value of digits alone.
use Rattle.proof_prelude.proofs.{◌≡◌, ℕ, ◌^◌, ◌<◌, ◌≤◌, List, [], ◌++◌, length, drop, get_or, true, false, ◌==◌, Some, refl, sym, ap, ◌∙◌, append-nil, lt-ltb, le-leb, suc, zero, pos, negsuc, ◌-ℤ◌, SFits, w64, to_z, of_z, to_z-of_z, arith, to_z_pos, AllDigits, digits_value}
use Rattle.fast_float.specs.Text.{minus, scan, Parts, IsWellFormed, with_sign}
use Rattle.fast_float.proofs.Writing.{scan-text_of}
use Rattle.serde_json.specs.Data.{unsigned, negative}
use Rattle.serde_json.specs.Read.{number_of, number_from}
use Rattle.serde_json.specs.Find.{of_integer}

pub number_of-minus : (s : List ℕ) → (get_or s 0 0 == minus) ≡ true → number_of s ≡ number_from true (scan (drop 1 s))
number_of-minus s e = unfold number_of in rw e

pub number_of-no_minus : (s : List ℕ) → (get_or s 0 0 == minus) ≡ false → number_of s ≡ number_from false (scan s)
number_of-no_minus s e = unfold number_of in rw e

abbrev digits : List ℕ → Parts
digits ds = record { whole = ds; point = false; fraction = []; exponent_negative = false; exponent = []; len = length (ds ++ []) }

scan-digits : (s : List ℕ) → AllDigits 10 s → scan s ≡ digits s
scan-digits s all =
    let formed : IsWellFormed (digits s) = record { whole_digits = all; fraction_digits = tt; exponent_digits = tt; no_point = λ _. refl; no_exponent = λ _. refl; len_is = refl } in
    ap scan (sym (append-nil s)) ∙ scan-text_of (digits s) formed

pub from_digits : (s : List ℕ) (n : ℕ) → 0 < length s → AllDigits 10 s → digits_value 10 s ≡ n → n < 2 ^ 64 → number_from false (scan s) ≡ Some (unsigned n)
from_digits s n some all value fits =
    let same : digits_value 10 (s ++ []) ≡ n = ap (digits_value 10) (append-nil s) ∙ value in
    ap (number_from false) (scan-digits s all) ∙ rw (lt-ltb _ _ some, same) (rw (lt-ltb _ _ fits))

pub below_digits : (s : List ℕ) (n : ℕ) → 0 < length s → AllDigits 10 s → digits_value 10 s ≡ n → 0 < n → n ≤ 2 ^ 63 → number_from true (scan s) ≡ Some (negative (with_sign true n))
below_digits s n some all value above fits =
    let same : digits_value 10 (s ++ []) ≡ n = ap (digits_value 10) (append-nil s) ∙ value in
    ap (number_from true) (scan-digits s all) ∙ rw (lt-ltb _ _ some, same) (rw (lt-ltb _ _ above, le-leb _ _ fits))

-- the number made from the opposite of n
pub opposite : (n : ℕ) → 0 < n → n < 2 ^ 63 → of_integer (to_z w64 (of_z w64 (pos 0 -ℤ to_z w64 n))) ≡ negative (with_sign true n)
opposite zero some small = let no : ⊥ = omega arith in absurd no
opposite (suc m) some small =
    let plain : to_z w64 (suc m) ≡ pos (suc m) = to_z_pos w64 small in
    let fits : SFits w64 (pos 0 -ℤ pos (suc m)) = grind arith in
    let below : pos 0 -ℤ pos (suc m) ≡ negsuc m = first_of (grind arith, omega arith) in
    ap (λ z. of_integer (to_z w64 (of_z w64 (pos 0 -ℤ z)))) plain ∙ ap of_integer (to_z-of_z fits ∙ below)
