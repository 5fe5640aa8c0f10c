use Rattle.proof_prelude.proofs.{◌≡◌, ◌+◌, ◌-◌, drop, sym, arith, length-drop}
use Rattle.json.specs.Text.{content, after_u, after_high}
use Rattle.json_values.proofs.{content-after_u, short_after_u, len_utf8-le, in_string-unit, escape_from}
use Rattle.json_values.proofs.unescape.unicode.Goals as goal

pub returns-then-text-i-lt4 : goal.returns-then-text-i-lt4
returns-then-text-i-lt4 c = short_after_u (drop c.args.i c.args.text.now) (omega (arith, length-drop c.args.i c.args.text.now))

pub returns-in_err-unit : goal.returns-in_err-unit
returns-in_err-unit c = grind (arith, content-after_u c.args.text.now c.args.i (omega arith))

pub returns-then-unit : goal.returns-then-unit
returns-then-unit c =
    let d = c.args.text.now in
    let i = c.args.i in
    let u = c.in_ok-unit.unit in
    let same : content after_u (drop i d) ≡ content (after_high u) (drop (i + 4) d) = grind (arith, content-after_u d i (omega arith)) in
    escape_from d i (i + 4) after_u (after_high u) c.low_half.result same (in_string-unit d i u (omega arith) (sym c.in_ok-unit.ensures.value)) (omega arith) c.low_half.ensures

pub returns-in_err-c : goal.returns-in_err-c
returns-in_err-c c = grind (arith, content-after_u c.args.text.now c.args.i (omega arith))

pub returns : goal.returns
returns c =
    let last : c.args.i + 4 - 1 ≡ c.args.i + 3 = omega arith in
    (grind (arith, content-after_u c.args.text.now c.args.i (omega arith)), omega arith, omega arith, omega (arith, len_utf8-le c.in_ok-c.c), rw last c.in_ok-unit.ensures.bounds.1, in_string-unit c.args.text.now c.args.i c.in_ok-unit.unit (omega arith) (sym c.in_ok-unit.ensures.value))
