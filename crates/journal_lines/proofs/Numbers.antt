-- Numbers without sign, point and exponent.
use Rattle.proof_prelude.proofs.{◌≡◌, ℕ, ◌^◌, ◌<◌, ◌&&◌, nat_lt, List, [], ◌∷◌, length, Bool, true, false, Option, Some, None, MatchOption, refl, sym, ap, ◌∙◌, arith, cond-true, cond-false, false_from_ne_true, list_all, AllDigits, digits_value, digit_value}
use Rattle.std.specs.Prelude.{ok_or}
use Rattle.std.specs.Result.{OkIff}
use Rattle.std.specs.Str.Parse.{IsNumeral, ParsesUnsigned, without_leading_plus}
use Rattle.json.specs.Json.{Json, null, boolean, number, string, array, object}
use Rattle.json.specs.Find.{as_number}
use Rattle.journal_lines.specs.Members.{are_digits, number_in, number_of_digits}

digits_tested : (ds : List ℕ) → AllDigits 10 ds → list_all (λ c. nat_lt (digit_value c) 10) ds ≡ true
digits_tested [] h = refl
digits_tested (c ∷ ds) h = grind (arith, digits_tested ds h.1)

digits_passed : (ds : List ℕ) → list_all (λ c. nat_lt (digit_value c) 10) ds ≡ true → AllDigits 10 ds
digits_passed [] h = tt
digits_passed (c ∷ ds) h = (grind arith, digits_passed ds (grind arith))

tested : (ds : List ℕ) → IsNumeral 10 ds × (digits_value 10 ds < 2 ^ 64) → (are_digits ds && nat_lt (digits_value 10 ds) (2 ^ 64)) ≡ true
tested ds h = grind (arith, digits_tested ds h.0.1)

passed : (ds : List ℕ) → (are_digits ds && nat_lt (digits_value 10 ds) (2 ^ 64)) ≡ true → IsNumeral 10 ds × (digits_value 10 ds < 2 ^ 64)
passed ds h = ((grind arith, digits_passed ds (grind arith)), grind arith)

by_digits : (ds text : List ℕ) (r : Option ℕ) → OkIff (ok_or r text) (IsNumeral 10 ds × (digits_value 10 ds < 2 ^ 64)) (digits_value 10 ds) → r ≡ number_of_digits ds
by_digits ds text None h = sym (cond-false _ _ None (false_from_ne_true _ (λ e. h (passed ds e))))
by_digits ds text (Some n) h = ap Some h.1 ∙ sym (cond-true _ _ None (tested ds h.0))

-- what a value of JSON is as such a number
pub number_read : (j : Json) (r : Option ℕ) → MatchOption (as_number j) (r ≡ None) (λ s. ParsesUnsigned 64 10 s (ok_or r s)) → r ≡ number_in j
number_read null r h = h
number_read (boolean b) r h = h
number_read (number s) r h = by_digits (without_leading_plus s) s r h
number_read (string s) r h = h
number_read (array js) r h = h
number_read (object ms) r h = h
