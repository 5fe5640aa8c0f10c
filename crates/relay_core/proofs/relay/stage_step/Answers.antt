-- Each stage's step keeps what is known.
use Rattle.proof_prelude.proofs.{◌∷◌, IfOk, refl, sym, subst, string_bytes}
use Rattle.relay_core.specs.declared.phase.Stage.{Stage}
use Rattle.relay_core.specs.declared.messages.Side.TheVariants.{Source, Target}
use Rattle.relay_core.specs.Messages.{ResponseView, exchange_of, put_log}
use Rattle.relay_core.specs.Views.{log_view, checkpoint_view, response_view}
use Rattle.relay_core.specs.Justified.{IsStored}
use Rattle.relay_core.specs.Known.{asked_by, KnowsAt, Knows}
use Rattle.relay_core.proofs.Reaching.{IsReachedFrom-more, AreReady-put, ready_for}
use Rattle.relay_core.proofs.Knowing.{knows_by}
use Rattle.relay_core.proofs.relay.stage_step.Goals as goal

pub returns-in-TargetLog : goal.returns-in-TargetLog
returns-in-TargetLog c = λ h k.
    subst (λ (s : Stage). KnowsAt h c.args.run s → Knows (exchange_of (asked_by c.args.run s) (response_view c.args.response) ∷ h) c.after_target_log.result) (sym c.in-TargetLog.is) (λ r. c.after_target_log.ensures h r) k

pub returns-in-SourceLog : goal.returns-in-SourceLog
returns-in-SourceLog c = λ h k.
    subst (λ (s : Stage). KnowsAt h c.args.run s → IfOk c.after_source_log.result (λ p. Knows (exchange_of (asked_by c.args.run s) (response_view c.args.response) ∷ h) p)) (sym c.in-SourceLog.is) (λ r. c.after_source_log.ensures h r) k

pub returns-in-Changes : goal.returns-in-Changes
returns-in-Changes c = λ h k.
    subst (λ (s : Stage). KnowsAt h c.args.run s → IfOk c.after_changes.result (λ p. Knows (exchange_of (asked_by c.args.run s) (response_view c.args.response) ∷ h) p)) (sym c.in-Changes.is) (λ r. c.after_changes.ensures h r) k

pub returns-in-Diff : goal.returns-in-Diff
returns-in-Diff c = λ h k.
    subst (λ (s : Stage). KnowsAt h c.args.run s → IfOk c.after_diff.result (λ p. Knows (exchange_of (asked_by c.args.run s) (response_view c.args.response) ∷ h) p)) (sym c.in-Diff.is) (λ r. c.after_diff.ensures h r) k

pub returns-in-Carry : goal.returns-in-Carry
returns-in-Carry c = λ h k.
    subst (λ (s : Stage). KnowsAt h c.args.run s → IfOk c.after_carry.result (λ p. Knows (exchange_of (asked_by c.args.run s) (response_view c.args.response) ∷ h) p)) (sym c.in-Carry.is) (λ r. c.after_carry.ensures h r) k

pub returns-in-Again : goal.returns-in-Again
returns-in-Again c = λ h k.
    subst (λ (s : Stage). KnowsAt h c.args.run s → IfOk c.after_again.result (λ p. Knows (exchange_of (asked_by c.args.run s) (response_view c.args.response) ∷ h) p)) (sym c.in-Again.is) (λ r. c.after_again.ensures h r) k

pub returns-in-TargetPut : goal.returns-in-TargetPut
returns-in-TargetPut c = λ h k.
    subst (λ (s : Stage). KnowsAt h c.args.run s → IfOk c.after_target_put.result (λ p. Knows (exchange_of (asked_by c.args.run s) (response_view c.args.response) ∷ h) p)) (sym c.in-TargetPut.is) (λ r.
    c.after_target_put.ensures (exchange_of (put_log Target (log_view c.in-TargetPut._target) (checkpoint_view c.in-TargetPut.checkpoint)) (response_view c.args.response) ∷ h)
    (IsReachedFrom-more _ r.0) (ready_for Source (AreReady-put Target (log_view c.in-TargetPut._target) (checkpoint_view c.in-TargetPut.checkpoint) (response_view c.args.response) r.1))
    (λ is. subst (λ (x : ResponseView). IsStored (exchange_of (put_log Target (log_view c.in-TargetPut._target) (checkpoint_view c.in-TargetPut.checkpoint)) x ∷ h) (string_bytes c.in-TargetPut.checkpoint.seq)) (sym is) refl)) k

pub returns-in-SourcePut : goal.returns-in-SourcePut
returns-in-SourcePut c = λ h k.
    subst (λ (s : Stage). KnowsAt h c.args.run s → IfOk c.after_source_put.result (λ p. Knows (exchange_of (asked_by c.args.run s) (response_view c.args.response) ∷ h) p)) (sym c.in-SourcePut.is) (λ r.
    c.after_source_put.ensures (exchange_of (put_log Source (log_view c.in-SourcePut._source) (checkpoint_view c.in-SourcePut._checkpoint)) (response_view c.args.response) ∷ h) (IsReachedFrom-more _ r.0)) k

pub returns-in-Done : goal.returns-in-Done
returns-in-Done c = λ h k.
    knows_by (exchange_of (asked_by c.args.run c.args.stage) (response_view c.args.response) ∷ h) c.quiet.result _ _ c.quiet.ensures.run c.quiet.ensures.stage tt
