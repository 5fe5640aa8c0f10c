use Rattle.proof_prelude.proofs.{Some, sym, ap, ◌∙◌, arith}
use Rattle.json_values.proofs.{from_digits}
use Rattle.json_values.proofs.numbers.read_from_zero.Goals as goal

pub returns-in-Some : goal.returns-in-Some
returns-in-Some c =
    let e = c.in-Some.ensures in
    ap Some c.from.ensures ∙ sym (from_digits c.args.bytes.now c.in-Some.n e.some e.digits e.value (omega arith))
