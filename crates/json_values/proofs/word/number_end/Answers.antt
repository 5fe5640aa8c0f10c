use Rattle.proof_prelude.proofs.{rules, arith, common_steps}
use Rattle.json.specs.Word.{after_number}
use Rattle.json_values.proofs.word.number_end.Goals as goal

pub returns-in_err-point : goal.returns-in_err-point
returns-in_err-point c = unfold after_number in first_of (search rules, grind (arith, common_steps))

pub returns-in_err-power : goal.returns-in_err-power
returns-in_err-power c = unfold after_number in first_of (search rules, grind (arith, common_steps))

pub returns : goal.returns
returns c = unfold after_number in first_of (search rules, grind (arith, common_steps))
