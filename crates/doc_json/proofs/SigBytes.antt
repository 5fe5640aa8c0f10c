-- Signatures and revision ids need no escapes as JSON strings.
use Rattle.proof_prelude.proofs.{◌≡◌, ℕ, ◌<◌, List, [], ◌∷◌, ◌++◌, true, false, inl, inr, refl, sym, ap, ap₂, ◌∙◌, arith, rules, list_all, decimal, fold, and_parts, and_from, cases_lt, nat_tests, list_all-append, digits_decimal, IsNumeralModel, numerals_by_fold, true≢false}
use Rattle.json.specs.Print.{escape, escape_byte}
use Rattle.json.proofs.Printed.Strings.{escape_byte_plain}
use Rattle.rev_core.specs.{is_sig, is_sig_byte, RevId, IsRev, is_digit, with_digit, value_of, rev_text}

not_low : (x : ℕ) → x < 32 → is_sig_byte x ≡ false
not_low x h = grind (arith, nat_tests)

sig_byte_plain : (x : ℕ) → is_sig_byte x ≡ true → escape_byte x ≡ x ∷ []
sig_byte_plain x h = elim (cases_lt x 32) [
  | inl low ↦ absurd (true≢false (sym h ∙ not_low x low))
  | inr high ↦ escape_byte_plain x (λ e. true≢false (sym h ∙ ap is_sig_byte e)) (λ e. true≢false (sym h ∙ ap is_sig_byte e)) high
]

pub escape-sig_bytes : (s : List ℕ) → list_all is_sig_byte s ≡ true → escape s ≡ s
escape-sig_bytes [] h = refl
escape-sig_bytes (x ∷ s) h = let parts = and_parts _ _ h in ap₂ (λ a b. a ++ b) (sig_byte_plain x parts.0) (escape-sig_bytes s parts.1)

pub sig_bytes : (s : List ℕ) → is_sig s ≡ true → list_all is_sig_byte s ≡ true
sig_bytes s h = (and_parts _ (list_all is_sig_byte s) h).1

decimals : IsNumeralModel (λ ds. list_all is_digit ds ≡ true) value_of
decimals = numerals_by_fold _ (search rules) (fold with_digit) (search rules)

digit_is_sig_byte : (c : ℕ) → is_digit c ≡ true → is_sig_byte c ≡ true
digit_is_sig_byte c h = grind (arith, nat_tests)

digits_are_sig_bytes : (s : List ℕ) → list_all is_digit s ≡ true → list_all is_sig_byte s ≡ true
digits_are_sig_bytes [] h = refl
digits_are_sig_bytes (c ∷ s) h = let parts = and_parts _ _ h in and_from _ _ (digit_is_sig_byte c parts.0) (digits_are_sig_bytes s parts.1)

pub rev_text_bytes : (r : RevId) → IsRev r → list_all is_sig_byte (rev_text r) ≡ true
rev_text_bytes r h =
    list_all-append is_sig_byte (decimal r.generation) (45 ∷ r.sig)
    ∙ and_from _ _ (digits_are_sig_bytes (decimal r.generation) (digits_decimal decimals r.generation (omega (arith, h.high)))) (sig_bytes r.sig h.sig)
