use Rattle.proof_prelude.proofs.{Some, sym, ap, ◌∙◌, arith}
use Rattle.json_values.proofs.{below_digits, opposite}
use Rattle.json_values.proofs.numbers.read_below_zero.Goals as goal

pub returns-in-Some : goal.returns-in-Some
returns-in-Some c =
    let e = c.in-Some.ensures in
    ap Some (c.from.ensures ∙ opposite c.in-Some.n (omega arith) (omega arith)) ∙ sym (below_digits c.args.bytes.now c.in-Some.n e.some e.digits e.value (omega arith) (omega arith))
