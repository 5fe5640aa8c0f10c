use Rattle.proof_prelude.proofs.{drop, true, ap, ◌∙◌, sym, arith, take_all, length-drop}
use Rattle.fast_float.specs.Text.{scan}
use Rattle.serde_json.specs.Read.{number_of, number_from}
use Rattle.json_values.proofs.{number_of-minus, number_of-no_minus}
use Rattle.json_values.proofs.numbers.read_number.Goals as goal

pub returns-then-has_minus : goal.returns-then-has_minus
returns-then-has_minus c =
    let bytes = c.as_bytes-bytes.result.now in
    c.read_below_zero.ensures ∙ ap (λ s. number_from true (scan s)) (take_all _ (drop 1 bytes) (omega (arith, length-drop 1 bytes))) ∙ sym (number_of-minus bytes (sym c.if-has_minus.ensures.sign)) ∙ ap number_of c.as_bytes-bytes.ensures.value

pub returns-else-has_minus : goal.returns-else-has_minus
returns-else-has_minus c =
    let bytes = c.as_bytes-bytes.result.now in
    c.read_from_zero.ensures ∙ sym (number_of-no_minus bytes (sym c.if-has_minus.ensures.sign)) ∙ ap number_of c.as_bytes-bytes.ensures.value
