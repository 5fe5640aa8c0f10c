-- What is known of a history in a phase.
use Rattle.proof_prelude.proofs.{◌≡◌, true, false, List, ◌∷◌, Option, None, Some, is_some, slice_get, option_map_or, false≢true, String, Global, refl, sym, ap, subst, subst₂, ◌∙◌}
use Rattle.relay_core.specs.declared.phase.Run.{Run}
use Rattle.relay_core.specs.declared.phase.Stage.{Stage}
use Rattle.relay_core.specs.declared.phase.Stage.TheVariants as stages
use Rattle.relay_core.specs.declared.phase.Phase.{Phase}
use Rattle.relay_core.specs.Messages.{NoticeView, tell, ResponseView, Exchange, exchange_of}
use Rattle.relay_core.specs.declared.messages.Side.TheVariants.{Target}
use Rattle.relay_core.specs.declared.messages.Notice.{Notice}
use Rattle.relay_core.specs.Views.{notice_view}
use Rattle.relay_core.specs.Justified.{MayAsk}
use Rattle.relay_core.specs.Known.{asked_by, asked_of, KnowsAt, Knows}
use Rattle.relay_core.proofs.Reaching.{IsReachedFrom-more, IsRead-told, IsOpen-told, AreReady-told, IsReady-told, ready_for}

pub knows_by : (h : List Exchange) (p : Phase) (run : Run) (stage : Stage) → p.run ≡ run → p.stage ≡ stage → KnowsAt h run stage → Knows h p
knows_by h p run stage run_is stage_is k = subst₂ (λ (r : Run) (s : Stage). KnowsAt h r s) (sym run_is) (sym stage_is) k

-- a notice is printed
pub KnowsAt-told : (h : List Exchange) (run : Run) (stage : Stage) (notice : NoticeView) (r : ResponseView) → KnowsAt h run stage → KnowsAt (exchange_of (tell notice) r ∷ h) run stage
KnowsAt-told h run stages.TargetLog notice r k = IsReachedFrom-more (exchange_of (tell notice) r) k
KnowsAt-told h run (stages.SourceLog target) notice r k = IsRead-told notice r k
KnowsAt-told h run stages.Changes notice r k = IsReachedFrom-more (exchange_of (tell notice) r) k
KnowsAt-told h run (stages.Diff page) notice r k = IsOpen-told notice r k
KnowsAt-told h run (stages.Carry t) notice r k = IsOpen-told notice r k
KnowsAt-told h run (stages.Again t) notice r k = IsOpen-told notice r k
KnowsAt-told h run (stages.TargetPut target source checkpoint) notice r k = (IsReachedFrom-more (exchange_of (tell notice) r) k.0, AreReady-told notice r k.1)
KnowsAt-told h run (stages.SourcePut source checkpoint) notice r k = (IsReachedFrom-more (exchange_of (tell notice) r) k.0, IsReady-told notice r k.1, k.2)
KnowsAt-told h run (stages.Done fault) notice r k = tt

-- the date of a run is changed
pub KnowsAt-dated : (h : List Exchange) (run : Run) (date : String Global) (stage : Stage) → KnowsAt h run stage → KnowsAt h (record run { date = date }) stage
KnowsAt-dated h run date stages.TargetLog k = k
KnowsAt-dated h run date (stages.SourceLog target) k = k
KnowsAt-dated h run date stages.Changes k = k
KnowsAt-dated h run date (stages.Diff page) k = k
KnowsAt-dated h run date (stages.Carry t) k = k
KnowsAt-dated h run date (stages.Again t) k = k
KnowsAt-dated h run date (stages.TargetPut target source checkpoint) k = k
KnowsAt-dated h run date (stages.SourcePut source checkpoint) k = k
KnowsAt-dated h run date (stages.Done fault) k = k

asked_by-dated : (run : Run) (date : String Global) (stage : Stage) → asked_by (record run { date = date }) stage ≡ asked_by run stage
asked_by-dated run date stages.TargetLog = refl
asked_by-dated run date (stages.SourceLog target) = refl
asked_by-dated run date stages.Changes = refl
asked_by-dated run date (stages.Diff page) = refl
asked_by-dated run date (stages.Carry t) = refl
asked_by-dated run date (stages.Again t) = refl
asked_by-dated run date (stages.TargetPut target source checkpoint) = refl
asked_by-dated run date (stages.SourcePut source checkpoint) = refl
asked_by-dated run date (stages.Done fault) = refl

-- what is known of a run is known of it with another date
pub knows_dated : (h : List Exchange) (run dated : Run) (stage : Stage) → dated ≡ record run { date = dated.date } → KnowsAt h run stage → KnowsAt h dated stage
knows_dated h run dated stage is k = subst (λ (r : Run). KnowsAt h r stage) (sym is) (KnowsAt-dated h run dated.date stage k)

pub asked_dated : (run dated : Run) (stage : Stage) → dated ≡ record run { date = dated.date } → asked_by dated stage ≡ asked_by run stage
asked_dated run dated stage is = ap (λ (r : Run). asked_by r stage) is ∙ asked_by-dated run dated.date stage

-- ---- notices

-- behind a notice, what was known is known
pub keeps_told : (phase : Phase) (h : List Exchange) (r : ResponseView) (o : Option Notice) → slice_get phase.notices.items phase.told ≡ o → is_some o ≡ true → KnowsAt h phase.run phase.stage → KnowsAt (exchange_of (asked_of phase) r ∷ h) phase.run phase.stage
keeps_told phase h r None is some k = absurd (false≢true some)
keeps_told phase h r (Some n) is some k =
    subst (λ (o : Option Notice). KnowsAt (exchange_of (option_map_or (λ x. tell (notice_view x)) o (asked_by phase.run phase.stage)) r ∷ h) phase.run phase.stage) (sym is)
    (KnowsAt-told h phase.run phase.stage (notice_view n) r k)

-- without a notice, the stage asks
pub asked_not_told : (phase : Phase) (o : Option Notice) → slice_get phase.notices.items phase.told ≡ o → is_some o ≡ false → asked_of phase ≡ asked_by phase.run phase.stage
asked_not_told phase None is none = ap (λ (o : Option Notice). option_map_or (λ x. tell (notice_view x)) o (asked_by phase.run phase.stage)) is
asked_not_told phase (Some n) is none = absurd (false≢true (sym none))

-- ---- the law

may_ask_at : (h : List Exchange) (run : Run) (stage : Stage) → KnowsAt h run stage → MayAsk h (asked_by run stage)
may_ask_at h run stages.TargetLog k = tt
may_ask_at h run (stages.SourceLog target) k = tt
may_ask_at h run stages.Changes k = tt
may_ask_at h run (stages.Diff page) k = tt
may_ask_at h run (stages.Carry t) k = tt
may_ask_at h run (stages.Again t) k = tt
may_ask_at h run (stages.TargetPut target source checkpoint) k = (ready_for Target k.1, tt)
may_ask_at h run (stages.SourcePut source checkpoint) k = (k.1, k.2)
may_ask_at h run (stages.Done fault) k = tt

may_ask_or : (h : List Exchange) (run : Run) (stage : Stage) (o : Option Notice) → KnowsAt h run stage → MayAsk h (option_map_or (λ x. tell (notice_view x)) o (asked_by run stage))
may_ask_or h run stage None k = may_ask_at h run stage k
may_ask_or h run stage (Some n) k = tt

-- what a phase asks for may be asked for
pub may_ask : (h : List Exchange) (phase : Phase) → Knows h phase → MayAsk h (asked_of phase)
may_ask h phase k = may_ask_or h phase.run phase.stage (slice_get phase.notices.items phase.told) k
