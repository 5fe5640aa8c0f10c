use Rattle.proof_prelude.proofs.{rules, arith, common_steps}
use Rattle.json.specs.Text.{short_escape}
use Rattle.json_values.proofs.unescape.short.Goals as goal

pub returns-in-34-clause-value : goal.returns-in-34-clause-value
returns-in-34-clause-value c = unfold short_escape in first_of (search rules, grind (arith, common_steps))

pub returns-in-98-clause-value : goal.returns-in-98-clause-value
returns-in-98-clause-value c = unfold short_escape in first_of (search rules, grind (arith, common_steps))

pub returns-in-102-clause-value : goal.returns-in-102-clause-value
returns-in-102-clause-value c = unfold short_escape in first_of (search rules, grind (arith, common_steps))

pub returns-in-110-clause-value : goal.returns-in-110-clause-value
returns-in-110-clause-value c = unfold short_escape in first_of (search rules, grind (arith, common_steps))

pub returns-in-114-clause-value : goal.returns-in-114-clause-value
returns-in-114-clause-value c = unfold short_escape in first_of (search rules, grind (arith, common_steps))

pub returns-in-116-clause-value : goal.returns-in-116-clause-value
returns-in-116-clause-value c = unfold short_escape in first_of (search rules, grind (arith, common_steps))

pub returns-in_default-clause-value : goal.returns-in_default-clause-value
returns-in_default-clause-value c = unfold short_escape in first_of (search rules, grind (arith, common_steps))
