use Rattle.proof_prelude.proofs.{ℕ, ap, sym, subst₂}
use Rattle.relay_core.specs.declared.messages.Counts.{Counts}
use Rattle.relay_core.specs.Messages.{Text}
use Rattle.relay_core.specs.Views.{log_view}
use Rattle.relay_core.specs.Justified.{AreReady}
use Rattle.relay_core.proofs.logs.put_target.Goals as goal

pub returns : goal.returns
returns c = λ h r k.
    (r, subst₂ (λ (s : Text) (n : ℕ). AreReady h (log_view c.args.target) (log_view c.args.source) s n) (sym c.in_ok-checkpoint.ensures.seq) (ap (λ (k : Counts). k.doc_write_failures) (sym c.in_ok-checkpoint.ensures.counts)) k)
