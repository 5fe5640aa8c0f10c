use Rattle.proof_prelude.proofs.{◌∷◌, IfOk, refl, sym, subst, slice_get, ◌∙◌}
use Rattle.relay_core.specs.Messages.{RequestView, exchange_of}
use Rattle.relay_core.specs.Views.{response_view}
use Rattle.relay_core.specs.Known.{asked_of, Knows}
use Rattle.relay_core.proofs.Knowing.{knows_dated, asked_dated, keeps_told, asked_not_told}
use Rattle.relay_core.proofs.relay.step.Goals as goal

pub returns-then-is_telling : goal.returns-then-is_telling
returns-then-is_telling c = λ h k.
    knows_dated (exchange_of (asked_of c.args.phase) (response_view c.args.response) ∷ h) c.args.phase.run c.in_ok-run.run' c.args.phase.stage c.in_ok-run.ensures
    (keeps_told c.args.phase h (response_view c.args.response) (slice_get c.args.phase.notices.items c.args.phase.told) refl (sym c.is_telling.ensures ∙ c.if-is_telling.true) k)

pub returns : goal.returns
returns c = λ h k.
    subst (λ (q : RequestView). IfOk c.stage_step.result (λ p. Knows (exchange_of q (response_view c.args.response) ∷ h) p))
    (asked_dated c.args.phase.run c.in_ok-run.run' c.args.phase.stage c.in_ok-run.ensures
    ∙ sym (asked_not_told c.args.phase (slice_get c.args.phase.notices.items c.args.phase.told) refl (sym c.is_telling.ensures ∙ c.if-is_telling.false)))
    (c.stage_step.ensures h (knows_dated h c.args.phase.run c.in_ok-run.run' c.args.phase.stage c.in_ok-run.ensures k))
