use Rattle.proof_prelude.proofs.{◌≡◌, ◌+◌, ◌<◌, true, length, get_or, arith, is_ascii_digit, digit_value, digit_value_digit, digits_more, digits_value_more, prefix_len-drop_yes}
use Rattle.json_values.proofs.{digit_range}
use Rattle.json_values.proofs.word.digits_sum.Goals as goal

pub loop-i-preserved : goal.loop-i-preserved
loop-i-preserved c =
    let l = c.loop-i in
    let rest = c.args.rest.now in
    let x = get_or rest l.i 0 in
    let within : l.i < length rest = omega arith in
    let digit : is_ascii_digit x ≡ true = grind arith in
    let range = digit_range x digit in
    let value : digit_value x + 48 ≡ x = digit_value_digit x range in
    let more = digits_value_more 10 rest l.i within in
    let run = prefix_len-drop_yes is_ascii_digit rest l.i 0 within digit in
    let summed : c.from.result ≡ digit_value x = grind arith in
    record {
      value = omega (arith, more, l.invariant.value, summed);
      digits = digits_more 10 rest l.i within l.invariant.digits (omega (arith, value, range.1));
      run = omega (arith, run, l.invariant.run);
      within = omega arith;
      fits = omega (arith, summed, value, range.1);
    }
