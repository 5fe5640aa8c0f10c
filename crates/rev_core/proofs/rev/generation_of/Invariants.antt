use Rattle.proof_prelude.proofs.{◌≡◌, ◌<◌, ◌≤◌, ◌^◌, drop, fold, list_all}
use Rattle.rev_core.specs.{with_digit, value_of, is_digit}
use Rattle.rev_core.proofs.rev.generation_of.Given as goal

-- reading the rest of the digits gives the value of all digits
abbrev pub invariant-loop-b : goal.invariant-loop-b
invariant-loop-b l = record {
  value : fold with_digit l.value (drop l.b-index l.text) ≡ value_of l.text;
  digits : list_all is_digit (drop l.b-index l.text) ≡ list_all is_digit l.text;
  fits : l.value < 2 ^ 32;
  low : 0 < l.b-index → 1 ≤ l.value;
}
