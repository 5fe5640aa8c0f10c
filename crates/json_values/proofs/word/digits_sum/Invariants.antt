use Rattle.proof_prelude.proofs.{◌≡◌, ◌+◌, ◌-◌, ◌<◌, ◌≤◌, ◌^◌, length, take, drop, prefix_len, is_ascii_digit, AllDigits, digits_value}
use Rattle.json_values.proofs.word.digits_sum.Given as goal

-- n is the value of the digits up to i
abbrev pub invariant-loop-i : goal.invariant-loop-i
invariant-loop-i l = record {
  value : digits_value 10 (take l.i l.rest) ≡ l.n;
  digits : AllDigits 10 (take l.i l.rest);
  run : prefix_len is_ascii_digit l.rest ≡ l.i + prefix_len is_ascii_digit (drop l.i l.rest);
  within : l.i ≤ length l.rest;
  fits : l.n < 2 ^ 63;
}

abbrev pub decreases-loop-i : goal.decreases-loop-i
decreases-loop-i l = length l.rest - l.i
