use Rattle.proof_prelude.proofs.{◌≡◌, drop, AllDigits, digits_value, digits_value_after}
use Rattle.json_values.proofs.numbers.few_digits.Given as goal

-- the remaining digits follow those of n
abbrev pub invariant-loop-byte : goal.invariant-loop-byte
invariant-loop-byte l =
    (digits_value 10 l.bytes ≡ digits_value_after 10 l.n (drop l.byte-index l.bytes)) × (AllDigits 10 (drop l.byte-index l.bytes) → AllDigits 10 l.bytes)
