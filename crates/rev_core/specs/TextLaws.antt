-- Lemmas: parsing the formatted string of a revision id gives the revision id, and formatting a parsed revision id
-- gives the parsed string.
use Rattle.std.specs.Prelude.{◌≡◌, ℕ, ◌+◌, ◌<◌, ◌≤◌, ◌^◌, Bool, true, false, ◌&&◌, not, cond, nat_le, nat_lt, List, [], ◌∷◌, ◌++◌, length, take, drop, fold, Some, None, Ok, Err, refl}
use Rattle.std.proofs.Common.{arith, ap, sym, ◌∙◌, rules, get_or}
use Rattle.std.proofs.Math.Seq.{take-append_seam, drop-append-add}
use Rattle.std.proofs.lemmas.Bool.{and_parts, leb-true, le-leb, ltb-true, lt-ltb, eqb-true, false≢true}
use Rattle.std.proofs.lemmas.List.{length-append}
use Rattle.std.proofs.lemmas.List.Sums.{split_at_first, passes_at_first}
use Rattle.std.proofs.lemmas.Fmt.{digits_decimal, digits_value-decimal, first_decimal, decimal-digits_value}
use Rattle.std.proofs.lemmas.Str.Parse.{IsNumeralModel, numerals_by_fold}
use Rattle.std.specs.List.{list_all, prefix_len, position_or_len}
use Rattle.std.specs.Fmt.{decimal}
use Rattle.rev_core.specs.Sig.{is_sig}
use Rattle.rev_core.specs.Rev.{RevId, IsRev}
use Rattle.rev_core.specs.Text.{is_digit, with_digit, value_of, is_generation, generation_read, is_dash, with_sig, cut_at, rev_read, rev_text}
use Rattle.rev_core.specs.declared.fault.RevFault.TheVariants as faults

-- The function `value_of` computes the value that the standard library defines for a numeral.
decimals : IsNumeralModel (λ ds. list_all is_digit ds ≡ true) value_of
decimals = numerals_by_fold _ (search rules) (fold with_digit) (search rules)

abbrev rev_of : ℕ → List ℕ → RevId
rev_of n sig = record { generation = n; sig = sig }

not_dash : (c : ℕ) → is_digit c ≡ true → not (is_dash c) ≡ true
not_dash c h = let parts = and_parts _ _ h in let low = leb-true 48 c parts.0 in grind arith

-- A string of decimal digits contains no `-`.
digits_before : (ds rest : List ℕ) → list_all is_digit ds ≡ true → position_or_len is_dash (ds ++ 45 ∷ rest) ≡ length ds
digits_before [] rest h = refl
digits_before (c ∷ ds) rest h =
    let parts = and_parts _ _ h in
    ap (λ b. cond b (1 + prefix_len (λ x. not (is_dash x)) (ds ++ 45 ∷ rest)) 0) (not_dash c parts.0)
    ∙ ap (λ n. 1 + n) (digits_before ds rest parts.1) ∙ omega arith

generation_written : (n : ℕ) → 1 ≤ n → n < 2 ^ 32 → generation_read (decimal n) ≡ Some n
generation_written n low high =
    let small : n < 2 ^ 64 = omega arith in
    let first : nat_le 49 (get_or (decimal n) 0 0) ≡ true = le-leb 49 _ (omega (arith, first_decimal n (omega arith) small)) in
    let digits : list_all is_digit (decimal n) ≡ true = digits_decimal decimals n small in
    let value : value_of (decimal n) ≡ n = digits_value-decimal decimals n small in
    let fits : nat_lt (value_of (decimal n)) (2 ^ 32) ≡ true = lt-ltb _ _ (omega (arith, value)) in
    ap (λ b. cond ((b && list_all is_digit (decimal n)) && nat_lt (value_of (decimal n)) (2 ^ 32)) (Some (value_of (decimal n))) None) first
    ∙ ap (λ b. cond (b && nat_lt (value_of (decimal n)) (2 ^ 32)) (Some (value_of (decimal n))) None) digits
    ∙ ap (λ b. cond b (Some (value_of (decimal n))) None) fits
    ∙ ap Some value

-- Parsing the formatted string of a revision gives the revision.
pub rev_read-text : (r : RevId) → IsRev r → rev_read (rev_text r) ≡ Ok r
rev_read-text r h =
    let ds = decimal r.generation in
    let digits : list_all is_digit ds ≡ true = digits_decimal decimals r.generation (omega (arith, h.high)) in
    let at : position_or_len is_dash (rev_text r) ≡ length ds = digits_before ds r.sig digits in
    let within : nat_lt (length ds) (length (rev_text r)) ≡ true = lt-ltb _ _ (omega (arith, length-append ds (45 ∷ r.sig))) in
    ap (λ p. cut_at (rev_text r) (cond (nat_lt p (length (rev_text r))) (Some p) None)) at
    ∙ ap (λ b. cut_at (rev_text r) (cond b (Some (length ds)) None)) within
    ∙ ap (λ t. with_sig (generation_read t) (drop (length ds + 1) (rev_text r))) (take-append_seam ds (45 ∷ r.sig))
    ∙ ap (λ t. with_sig (generation_read ds) t) (drop-append-add ds (45 ∷ r.sig) 1)
    ∙ ap (λ n. with_sig n r.sig) (generation_written r.generation h.low h.high)
    ∙ ap (λ b. cond b (Ok r) (Err faults.BadSig)) h.sig

sig_told : (b : Bool) (n : ℕ) (text : List ℕ) (r : RevId) → cond b (Ok (rev_of n text)) (Err faults.BadSig) ≡ Ok r → rev_of n text ≡ r
sig_told true n text r e = cc
sig_told false n text r e = cc

nonempty : (ds : List ℕ) → nat_le 49 (get_or ds 0 0) ≡ true → 0 < length ds
nonempty [] h = absurd (false≢true h)
nonempty (c ∷ ds) h = omega arith

-- If a string parses as a generation, the string is the decimal form of this generation.
generation_told : (b : Bool) (ds rest : List ℕ) (r : RevId) → b ≡ is_generation ds → with_sig (cond b (Some (value_of ds)) None) rest ≡ Ok r → rev_text r ≡ ds ++ 45 ∷ rest
generation_told true ds rest r is e =
    let parts = and_parts _ _ (sym is) in
    let first = and_parts _ _ parts.0 in
    let low : 49 ≤ get_or ds 0 0 = leb-true 49 _ first.0 in
    let same : rev_of (value_of ds) rest ≡ r = sig_told (is_sig rest) (value_of ds) rest r e in
    ap rev_text (sym same)
    ∙ ap (λ t. t ++ 45 ∷ rest) (decimal-digits_value decimals ds first.1 (nonempty ds first.0) (λ zero_first. absurd (omega arith)) (omega (arith, ltb-true _ _ parts.1)))
generation_told false ds rest r is e = cc

cut_told : (b : Bool) (text : List ℕ) (r : RevId) → b ≡ nat_lt (position_or_len is_dash text) (length text) → cut_at text (cond b (Some (position_or_len is_dash text)) None) ≡ Ok r → rev_text r ≡ text
cut_told true text r is e =
    let p = position_or_len is_dash text in
    let within : p < length text = ltb-true _ _ (sym is) in
    let dash : get_or text p 0 ≡ 45 = eqb-true _ _ (passes_at_first is_dash text 0 within) in
    generation_told (is_generation (take p text)) (take p text) (drop (p + 1) text) r refl e
    ∙ ap (λ c. take p text ++ c ∷ drop (p + 1) text) (sym dash)
    ∙ sym (split_at_first is_dash text 0 within)
cut_told false text r is e = cc

-- If a string parses as a revision, formatting this revision gives the string.
pub rev_text-read : (text : List ℕ) (r : RevId) → rev_read text ≡ Ok r → rev_text r ≡ text
rev_text-read text r e = cut_told _ text r refl e
