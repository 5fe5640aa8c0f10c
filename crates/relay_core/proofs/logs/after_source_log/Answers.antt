use Rattle.proof_prelude.proofs.{◌∷◌, ap, sym, ◌∙◌}
use Rattle.relay_core.specs.declared.messages.Side.TheVariants.{Source}
use Rattle.relay_core.specs.Messages.{exchange_of, get_log}
use Rattle.relay_core.specs.Views.{log_view, response_view}
use Rattle.relay_core.specs.Justified.{seq_of}
use Rattle.relay_core.proofs.Reaching.{reached_by, IsReachedFrom-more, readies, readies_anew}
use Rattle.relay_core.proofs.logs.after_source_log.Goals as goal

pub returns-then-is_same : goal.returns-then-is_same
returns-then-is_same c = λ h r.
    c.put_target.ensures (exchange_of (get_log Source) (response_view c.args.response) ∷ h) (IsReachedFrom-more _ (reached_by r))
    (readies (log_view c.args.target) (log_view c.in-Log.source) (response_view c.args.response) (ap response_view c.in-Log.is)
    (ap seq_of (sym c.in_ok-common.ensures ∙ c.is_same.ensures c.if-is_same.true)) r)

pub returns : goal.returns
returns c = λ h r.
    c.anew.ensures (exchange_of (get_log Source) (response_view c.args.response) ∷ h)
    (λ s n e. readies_anew (log_view c.args.target) (log_view c.in-Log.source) (response_view c.args.response) s n (ap response_view c.in-Log.is) (ap seq_of (sym c.in_ok-common.ensures) ∙ e) r)
