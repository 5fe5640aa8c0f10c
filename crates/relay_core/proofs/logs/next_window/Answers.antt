use Rattle.proof_prelude.proofs.{◌∙◌}
use Rattle.relay_core.proofs.Reaching.{begins}
use Rattle.relay_core.proofs.logs.next_window.Goals as goal

pub returns : goal.returns
returns c = λ h. begins h _ _ _ (c.in_ok-from_str-2.ensures.ok ∙ c.as_str-2.ensures.value)
