-- The digits of a digest are a signature, and a short one.
use Rattle.proof_prelude.proofs.{list_all, ◌≡◌, ℕ, zero, suc, ◌/◌, ◌%◌, ◌<◌, ◌≤◌, Bool, true, ◌&&◌, List, [], ◌∷◌, length, slice_index, refl, subst, inl, inr, arith, ◌∙◌, and_parts, and_from, cases_lt, cond-true, le-leb, eq-eqb}
use Rattle.hex.specs.Hex.{encode_with, encode_lower, lower_digits}
use Rattle.hex.proofs.HexLemmas.{length-encode_with}
use Rattle.rev_core.specs.{is_sig, is_sig_byte, is_hex_digit, is_short}

-- whether p is true of all numbers below n
abbrev all_below : (ℕ → Bool) → ℕ → Bool
all_below p zero = true
all_below p (suc n) = p (slice_index lower_digits n) && all_below p n

below_at : (p : ℕ → Bool) (n k : ℕ) → all_below p n ≡ true → k < n → p (slice_index lower_digits k) ≡ true
below_at p zero k h lt = absurd (omega arith)
below_at p (suc n) k h lt =
    let parts = and_parts (p (slice_index lower_digits n)) (all_below p n) h in
    elim (cases_lt k n) [
      | inl below ↦ below_at p n k parts.1 below
      | inr top ↦ let e : n ≡ k = omega arith in subst (λ d. p (slice_index lower_digits d) ≡ true) e parts.0
    ]

all_digits : (p : ℕ → Bool) → all_below p 16 ≡ true → (bytes : List ℕ) → ((i : ℕ) → slice_index bytes i < 256)
    → list_all p (encode_with lower_digits bytes) ≡ true
unfolding encode_with
all_digits p all [] h = refl
all_digits p all (b ∷ rest) h =
    let fits : b < 256 = h 0 in
    and_from _ _ (below_at p 16 (b / 16) all (omega arith)) (and_from _ _ (below_at p 16 (b % 16) all (omega arith)) (all_digits p all rest (λ i. h (suc i))))

-- the digits of 16 bytes are a signature
pub is_sig-encode_lower : (bytes : List ℕ) → length bytes ≡ 16 → ((i : ℕ) → slice_index bytes i < 256) → is_sig (encode_lower bytes) ≡ true
is_sig-encode_lower bytes n h =
    let size = length-encode_with lower_digits bytes in
    let low : 1 ≤ length (encode_lower bytes) = omega arith in
    let high : length (encode_lower bytes) ≤ 64 = omega arith in
    and_from _ _ (and_from _ _ (le-leb 1 (length (encode_lower bytes)) low) (le-leb (length (encode_lower bytes)) 64 high)) (all_digits is_sig_byte refl bytes h)

pub is_short-encode_lower : (bytes : List ℕ) → length bytes ≡ 16 → ((i : ℕ) → slice_index bytes i < 256) → is_short (encode_lower bytes) ≡ true
is_short-encode_lower bytes n h =
    let size : length (encode_lower bytes) ≡ 32 = omega (arith, length-encode_with lower_digits bytes, n) in
    cond-true _ _ _ (eq-eqb (length (encode_lower bytes)) 32 size) ∙ all_digits is_hex_digit refl bytes h
