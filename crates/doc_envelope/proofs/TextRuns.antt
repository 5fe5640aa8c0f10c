-- A run does not change how a text begins.
use Rattle.proof_prelude.proofs.{◌≡◌, ℕ, ◌<◌, ◌≤◌, length, take, get_or, List, ◌++◌, codes, nat_eq, pointwise, sym, ap, ◌∙◌, arith}
use Rattle.std.proofs.Math.ListN.{get_or-append}
use Rattle.std.proofs.lemmas.List.{take-append-le}
use Rattle.doc_envelope.specs.{IsRun, MayStream, is_log}

pub first_run : (s r t : List ℕ) → MayStream s → IsRun r → get_or (s ++ (r ++ t)) 0 0 ≡ get_or (s ++ t) 0 0
first_run s r t m h =
    let some : 0 < length s = omega (arith, m.long) in
    get_or-append s (r ++ t) 0 0 some ∙ sym (get_or-append s t 0 0 some)

front_run : (s r t : List ℕ) (n : ℕ) → n ≤ length s → take n (s ++ (r ++ t)) ≡ take n (s ++ t)
front_run s r t n h = take-append-le n s (r ++ t) h ∙ sym (take-append-le n s t h)

pub log_run : (s r t : List ℕ) → MayStream s → IsRun r → is_log (s ++ (r ++ t)) ≡ is_log (s ++ t)
log_run s r t m h = ap (λ x. pointwise nat_eq (codes "{\"_id\":\"_local/") x) (front_run s r t 15 (omega (arith, m.long)))
