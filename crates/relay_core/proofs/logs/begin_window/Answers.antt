use Rattle.proof_prelude.proofs.{refl, ◌∙◌}
use Rattle.relay_core.proofs.logs.begin_window.Goals as goal

pub returns : goal.returns
returns c = record { begin = refl; since = c.in_ok-since.ensures.ok ∙ c.seq_of.ensures }
