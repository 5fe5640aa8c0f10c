use Rattle.proof_prelude.proofs.{◌≡◌, ◌+◌, ◌/◌, ◌%◌, sym, ap, ◌∙◌, ◌∷◌, append-nil, arith, decimal_digit, length-take-le, take_all}
use Rattle.itoa.proofs.Decimal.{decimal_pair}
use Rattle.command_api.proofs.texts.three_digit_text.Goals as goal

pub slice_bounds-bytes-end : goal.slice_bounds-bytes-end
slice_bounds-bytes-end c = sym (length-take-le 32 c.args.sig.now (omega (arith, c.requires.sig)))

pub copy_from_slice-requires : goal.copy_from_slice-requires
copy_from_slice-requires c = sym (length-take-le 32 c.args.sig.now (omega (arith, c.requires.sig)))

pub returns : goal.returns
returns c =
    let n = c.args.generation in
    let a : n / 10 / 10 ≡ n / 100 = omega arith in
    let b : n % 100 / 10 ≡ n / 10 % 10 = omega arith in
    let d : n % 100 % 10 ≡ n % 10 = omega arith in
    let copied = append-nil _ ∙ c.copy_from_slice.ensures.after ∙ take_all 32 c.args.sig.now (omega (arith, c.requires.sig)) in
    rw (decimal_pair n (omega (arith, c.requires.generation)) (omega (arith, c.requires.generation)), decimal_digit (n / 100) (omega (arith, c.requires.generation)), a, b, d)
    (ap (λ t. (48 + n / 100) ∷ (48 + n / 10 % 10) ∷ (48 + n % 10) ∷ 45 ∷ t) copied)
