use Rattle.proof_prelude.proofs.{◌≡◌, ◌/◌, ◌%◌, refl, arith}
use Rattle.itoa.proofs.Decimal.{decimal_two, decimal_pair}
use Rattle.command_api.proofs.texts.four_digits.Goals as goal

pub returns : goal.returns
returns c =
    let n = c.args.number in
    let a : n / 100 / 10 ≡ n / 1000 = omega arith in
    let b : n % 100 / 10 ≡ n / 10 % 10 = omega arith in
    let d : n % 100 % 10 ≡ n % 10 = omega arith in
    rw (decimal_pair n (omega (arith, c.requires)) (omega (arith, c.requires)), decimal_two (n / 100) (omega (arith, c.requires)) (omega (arith, c.requires)), a, b, d) refl
