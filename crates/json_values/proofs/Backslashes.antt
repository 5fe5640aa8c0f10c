-- Texts with a backslash.
use Rattle.proof_prelude.proofs.{◌≡◌, ℕ, ◌<◌, ◌==◌, true, List, length, get_or, ap, arith, lt_of_not-le, get_or_past}
use Rattle.std.proofs.lemmas.List.Folds.{list_any_at}
use Rattle.json_values.specs.{has_backslash}

pub backslash_at : (d : List ℕ) (i : ℕ) → get_or d i 32 ≡ 92 → has_backslash d ≡ true
backslash_at d i e =
    let within : i < length d = lt_of_not-le (λ n. omega (arith, get_or_past d i 32 n)) in
    list_any_at (λ c. c == 92) d i 32 within (ap (λ c. c == 92) e)
