-- A signature in an array, followed by zeros.
use Rattle.proof_prelude.proofs.{nat_le, list_all, ◌≡◌, ℕ, ◌+◌, ◌-◌, ◌≤◌, List, length, take, true, ap, sym, arith, ◌∙◌, refl, subst, length-replicate, and_parts, take_at, length-append, leb-true}
use Rattle.rev_core.specs.{is_sig, is_sig_byte, IsStored, padded}

pub padded-front : (text : List ℕ) → take (length text) (padded text) ≡ text
padded-front text = take_at text _ (length text) refl

-- the padded array of a signature stores it
pub stored : (text : List ℕ) → is_sig text ≡ true → IsStored (padded text) (length text)
stored text h =
    let most : length text ≤ 64 = leb-true (length text) 64 (and_parts (nat_le 1 (length text)) _ (and_parts _ (list_all is_sig_byte text) h).0).1 in
    let whole : length text + (64 - length text) ≡ 64 = omega (arith, most) in
    record {
      size = length-append text _ ∙ ap (λ n. length text + n) (length-replicate (64 - length text) 0) ∙ whole;
      fits = most;
      sig = subst (λ t. is_sig t ≡ true) (sym (padded-front text)) h;
      zeros = ap padded (sym (padded-front text));
    }
