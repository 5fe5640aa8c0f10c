use Rattle.proof_prelude.proofs.{refl, sym, rules, arith, common_steps}
use Rattle.json.specs.Word.{word}
use Rattle.json.specs.Lex.{lex}
use Rattle.json.proofs.Printed.Numbers.{in_word-ended}
use Rattle.json_values.proofs.word.word.Goals as goal

pub literal-requires-clause-named : goal.literal-requires-clause-named
literal-requires-clause-named c = unfold lex in (omega arith, refl, λ r ended. sym (in_word-ended r ended))

pub literal-requires-in-102-clause-named : goal.literal-requires-in-102-clause-named
literal-requires-in-102-clause-named c = unfold lex in (omega arith, refl, λ r ended. sym (in_word-ended r ended))

pub literal-requires-in-110-clause-named : goal.literal-requires-in-110-clause-named
literal-requires-in-110-clause-named c = unfold lex in (omega arith, refl, λ r ended. sym (in_word-ended r ended))

pub returns-in-116 : goal.returns-in-116
returns-in-116 c = unfold word in first_of (search rules, grind (arith, common_steps))

pub returns-in-102 : goal.returns-in-102
returns-in-102 c = unfold word in first_of (search rules, grind (arith, common_steps))

pub returns-in-110 : goal.returns-in-110
returns-in-110 c = unfold word in first_of (search rules, grind (arith, common_steps))

pub returns-in_default : goal.returns-in_default
returns-in_default c = unfold word in first_of (search rules, grind (arith, common_steps))
