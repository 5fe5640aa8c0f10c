use Rattle.proof_prelude.proofs.{◌≡◌, true, SFits, w64, sym, ◌∙◌, subst, arith}
use Rattle.json.proofs.Printed.Decimals.{IsNumber-decimal, IsNumber-signed_decimal}
use Rattle.serde_json.specs.Number.{is_valid}
use Rattle.serde_json.proofs.Numbers.{number_of-decimal}
use Rattle.doc_json.specs.{ReadsBack}
use Rattle.doc_json.proofs.{is_unsigned, is_below_zero, below_zero}
use Rattle.doc_json.proofs.text.push_integer.Goals as goal

pub returns-in-Some-clause-numbers : goal.returns-in-Some-clause-numbers
returns-in-Some-clause-numbers c =
    let n = c.in-Some.n in
    subst ReadsBack (sym (is_unsigned _ n (sym c.as_u64.ensures ∙ c.in-Some.is))) (IsNumber-decimal n (omega arith), number_of-decimal n (omega arith))

pub returns-in-None-clause-numbers : goal.returns-in-None-clause-numbers
returns-in-None-clause-numbers c =
    let z = c.unwrap.result in
    let valid : is_valid c.args.n.now.n ≡ true = c.args.n.now.valid in
    let is = is_below_zero c.args.n.now.n z valid (sym c.as_i64.ensures ∙ c.unwrap.ensures) (sym c.as_u64.ensures ∙ c.in-None.is) in
    let fits : SFits w64 z = grind arith in
    subst ReadsBack (sym is.0) (IsNumber-signed_decimal z (grind arith), below_zero z is.1 fits)
