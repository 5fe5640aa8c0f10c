-- Numbers grow with each digit.
use Rattle.proof_prelude.proofs.{◌≡◌, ℕ, ◌≤◌, ◌^◌, Bool, true, false, ◌&&◌, cond, List, [], ◌∷◌, Some, None, Result, Ok, Err, is_ok, fold, get_or, nat_le, sym, ap, ◌∙◌, refl, arith, list_all, result_unwrap_or, cond-false, false≢true, le-ltb}
use Rattle.rev_core.specs.{is_sig, sig_read, RevId, RevFault, with_digit, value_of, is_digit, generation_read, with_sig}
use Rattle.rev_core.specs.declared.fault.RevFault.TheVariants as faults

pub value_grows : (n : ℕ) (digits : List ℕ) → n ≤ fold with_digit n digits
value_grows n [] = omega arith
value_grows n (c ∷ digits) = omega (arith, value_grows (with_digit n c) digits)

and_false : (x : Bool) → (x && false) ≡ false
and_false true = refl
and_false false = refl

pub too_large : (text : List ℕ) → 2 ^ 32 ≤ value_of text → None ≡ generation_read text
too_large text h =
    sym (cond-false _ (Some (value_of text)) None (ap (λ b. (nat_le 49 (get_or text 0 0) && list_all is_digit text) && b) (le-ltb (value_of text) (2 ^ 32) h) ∙ and_false _))

abbrev rev_of : ℕ → List ℕ → RevId
rev_of n s = record { generation = n; sig = s }

-- a generation and a parsed signature give the revision
pub with_read : (n : ℕ) (text sig : List ℕ) → sig_read text ≡ Ok sig → with_sig (Some n) text ≡ Ok (record { generation = n; sig = sig })
with_read n text sig h =
    elim (is_sig text) as (λ b. cond b (Ok text) (Err faults.BadSig) ≡ Ok sig → cond b (Ok (rev_of n text)) (Err faults.BadSig) ≡ Ok (rev_of n sig)) [
      | true ↦ λ e. let out : Result (List ℕ) RevFault → Result RevId RevFault = λ r. Ok (rev_of n (result_unwrap_or r text)) in ap out e
      | false ↦ λ e. absurd (false≢true (ap is_ok e))
    ] h
