use Rattle.proof_prelude.proofs.{arith}
use Rattle.json.specs.Text.{code_unit}
use Rattle.json_values.proofs.unescape.hex4.Goals as goal

pub returns-then-a-b-clause-value : goal.returns-then-a-b-clause-value
returns-then-a-b-clause-value c = unfold code_unit in rw (← c.digit-a.ensures.value, ← c.digit-b.ensures.value, ← c.digit-c.ensures.value, ← c.digit-d.ensures.value) (grind arith)

pub returns-else-a-b-clause-value : goal.returns-else-a-b-clause-value
returns-else-a-b-clause-value c = unfold code_unit in rw (← c.digit-a.ensures.value, ← c.digit-b.ensures.value, ← c.digit-c.ensures.value, ← c.digit-d.ensures.value) (grind arith)
