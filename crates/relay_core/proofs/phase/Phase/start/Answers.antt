use Rattle.proof_prelude.proofs.{codes, string_bytes, sym}
use Rattle.relay_core.proofs.Reaching.{begins}
use Rattle.relay_core.proofs.Knowing.{knows_by}
use Rattle.relay_core.proofs.phase.Phase.start.Goals as goal

pub returns : goal.returns
returns c = λ h. knows_by h c.quiet.result _ _ c.quiet.ensures.run c.quiet.ensures.stage (begins h (codes "0") (string_bytes c.in_ok-since.since) 0 (sym c.in_ok-since.ensures.ok))
