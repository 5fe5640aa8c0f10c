-- The signature of a local edit is short.
use Rattle.proof_prelude.proofs.{◌≡◌, ℕ, zero, suc, ◌-◌, ◌^◌, ◌<◌, Bool, true, false, List, length, get_or, slice_index, cond, Ok, Err, Option, ap, sym, subst, arith, inl, inr, is_ok, nat_lt, to_le_bytes, result_unwrap_or, false≢true, cases_lt, get_or_append_left, get_or-append_right}
use Rattle.std.specs.Int.{w32}
use Rattle.md5.specs.Md5.{md5, digest_bytes}
use Rattle.md5.proofs.StandardFacts.{length-md5}
use Rattle.rev_core.specs.{RevId, edit_text, edit_sig, edit_rev, next_generation, is_short, RevFault}
use Rattle.rev_core.specs.declared.fault.RevFault.TheVariants as rev_faults
use Rattle.rev_core.proofs.HexSigs.{is_short-encode_lower}

-- each byte of a 32-bit word is below 256
word_low : (word i : ℕ) → get_or (to_le_bytes w32 word) i 0 < 256
word_low word zero = omega arith
word_low word (suc zero) = omega arith
word_low word (suc (suc zero)) = omega arith
word_low word (suc (suc (suc zero))) = omega arith
word_low word (suc (suc (suc (suc i)))) = omega arith

digest_low : (hash : List ℕ) (n i : ℕ) → get_or (digest_bytes hash n) i 0 < 256
unfolding digest_bytes
digest_low hash zero i = omega arith
digest_low hash (suc n) i = elim (cases_lt i (length (digest_bytes hash n))) [
  | inl below ↦ subst (λ b. b < 256) (sym (get_or_append_left (digest_bytes hash n) (to_le_bytes w32 (slice_index hash n)) 0 i below)) (digest_low hash n i)
  | inr above ↦ subst (λ b. b < 256) (sym (get_or-append_right (digest_bytes hash n) (to_le_bytes w32 (slice_index hash n)) i 0 above)) (word_low (slice_index hash n) (i - length (digest_bytes hash n)))
]

md5_low : (text : List ℕ) (i : ℕ) → get_or (md5 text) i 0 < 256
unfolding md5
md5_low text i = digest_low _ 4 i

is_short-edit_sig : (before : Option RevId) (deleted : Bool) (body : List ℕ) → is_short (edit_sig before deleted body) ≡ true
unfolding edit_sig
is_short-edit_sig before deleted body =
    let text = edit_text before deleted body in is_short-encode_lower (md5 text) (length-md5 text) (md5_low text)

of_bool : (b : Bool) (r s : RevId) (fault : RevFault) → cond b (Ok r) (Err fault) ≡ Ok s → r ≡ s
of_bool true r s fault e = ap (λ y. result_unwrap_or y r) e
of_bool false r s fault e = absurd (false≢true (ap is_ok e))

-- the signature of a local edit is short
pub is_short-edit_rev : (before : Option RevId) (deleted : Bool) (body : List ℕ) (r : RevId) → edit_rev before deleted body ≡ Ok r → is_short r.sig ≡ true
is_short-edit_rev before deleted body r e =
    subst (λ (s : RevId). is_short s.sig ≡ true) (of_bool (nat_lt (next_generation before) (2 ^ 32)) _ r rev_faults.GenerationFull e) (is_short-edit_sig before deleted body)
