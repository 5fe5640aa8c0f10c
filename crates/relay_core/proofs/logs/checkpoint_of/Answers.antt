use Rattle.proof_prelude.proofs.{refl, ◌∙◌}
use Rattle.relay_core.proofs.logs.checkpoint_of.Goals as goal

pub returns : goal.returns
returns c = record { seq = c.in_ok-from_str-4.ensures.ok ∙ c.as_str-3.ensures.value; counts = refl }
