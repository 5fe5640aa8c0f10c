use Rattle.relay_core.proofs.Knowing.{knows_by}
use Rattle.relay_core.proofs.pages.retry.Goals as goal

pub returns : goal.returns
returns c = λ h r. knows_by h c.quiet.result _ _ c.quiet.ensures.run c.quiet.ensures.stage r
