use Rattle.proof_prelude.proofs.{◌≡◌, ◌+◌, ◌-◌, drop, sym, arith, common_steps, length-drop}
use Rattle.json_values.proofs.{content-after_high, short_after_high, len_utf8-le, in_string-low_half}
use Rattle.json_values.proofs.unescape.low_half.Goals as goal

pub returns-then-text-i-lt6 : goal.returns-then-text-i-lt6
returns-then-text-i-lt6 c = grind (arith, common_steps, content-after_high c.args.text.now c.args.i c.args.high, short_after_high c.args.high (drop c.args.i c.args.text.now), length-drop c.args.i c.args.text.now)

pub returns-in_err-low : goal.returns-in_err-low
returns-in_err-low c = grind (arith, common_steps, content-after_high c.args.text.now c.args.i c.args.high (omega arith))

pub returns-then-not-low : goal.returns-then-not-low
returns-then-not-low c = grind (arith, common_steps, content-after_high c.args.text.now c.args.i c.args.high (omega arith))

pub returns : goal.returns
returns c =
    let last : c.args.i + 6 - 1 ≡ c.args.i + 2 + 3 = omega arith in
    (grind (arith, content-after_high c.args.text.now c.args.i c.args.high (omega arith)), omega arith, omega arith, omega (arith, len_utf8-le c.in_ok-c.c), rw last c.in_ok-low.ensures.bounds.1, in_string-low_half c.args.text.now c.args.i c.in_ok-low.low (omega arith) (grind arith) (sym c.in_ok-low.ensures.value))
