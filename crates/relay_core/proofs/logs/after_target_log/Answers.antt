use Rattle.proof_prelude.proofs.{◌∷◌, ap}
use Rattle.relay_core.specs.declared.messages.Side.TheVariants.{Target}
use Rattle.relay_core.specs.Messages.{exchange_of, get_log}
use Rattle.relay_core.specs.Views.{log_view, response_view}
use Rattle.relay_core.proofs.Reaching.{reads_as}
use Rattle.relay_core.proofs.Knowing.{knows_by}
use Rattle.relay_core.proofs.logs.after_target_log.Goals as goal

pub returns-in-Log : goal.returns-in-Log
returns-in-Log c = λ h r.
    knows_by (exchange_of (get_log Target) (response_view c.args.response) ∷ h) c.quiet.result _ _ c.quiet.ensures.run c.quiet.ensures.stage
    (reads_as (log_view c.in-Log.target) (response_view c.args.response) (ap response_view c.in-Log.is) r)

pub returns-in_default : goal.returns-in_default
returns-in_default c = λ h r. c.failed.ensures.known (exchange_of (get_log Target) (response_view c.args.response) ∷ h)
