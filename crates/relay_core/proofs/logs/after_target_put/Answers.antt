use Rattle.proof_prelude.proofs.{ap}
use Rattle.relay_core.specs.Views.{response_view}
use Rattle.relay_core.proofs.Knowing.{knows_by}
use Rattle.relay_core.proofs.logs.after_target_put.Goals as goal

pub returns-in_ok-checkpoint-in-Stored : goal.returns-in_ok-checkpoint-in-Stored
returns-in_ok-checkpoint-in-Stored c = λ h r k s. knows_by h c.quiet.result _ _ c.quiet.ensures.run c.quiet.ensures.stage (r, k, s (ap response_view c.in-Stored.is))

pub returns-in-Conflict : goal.returns-in-Conflict
returns-in-Conflict c = λ h r k s. c.after_conflict.ensures h r

pub returns-in_default : goal.returns-in_default
returns-in_default c = λ h r k s. c.failed.ensures.known h
