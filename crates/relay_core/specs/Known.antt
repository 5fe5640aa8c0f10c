-- For each phase of the relay, this file defines the relay's next request, and what is known about the history.
use Rattle.std.specs.Prelude.{ℕ, ◌≡◌, ◌-◌, ◌^◌, ◌≤◌, true, if◌then◌else◌, List, [], ◌∷◌, ◌++◌, Option, None, Some, min, option_map, take, drop, slice_get, string_bytes}
use Rattle.std.specs.Option.{option_map_or}
use Rattle.relay_core.specs.declared.messages.Side.TheVariants.{Source, Target}
use Rattle.relay_core.specs.declared.phase.Recorded.{Recorded}
use Rattle.relay_core.specs.declared.phase.Run.{Run}
use Rattle.relay_core.specs.declared.phase.Transfer.{Transfer}
use Rattle.relay_core.specs.declared.phase.Stage.{Stage}
use Rattle.relay_core.specs.declared.phase.Stage.TheVariants as stages
use Rattle.relay_core.specs.declared.phase.Phase.{Phase}
use Rattle.relay_core.specs.Messages.{Text, DocView, PageView, RowErrorView, LogView, RequestView, get_log, get_changes, revs_diff, carry_docs, put_log, tell, done, page_response, Exchange, exchange_of}
use Rattle.relay_core.specs.Views.{docs_view, row_errors_view, log_view, fault_view, checkpoint_view, notice_view}
use Rattle.relay_core.specs.Leaves.{are_distinct, are_about}
use Rattle.relay_core.specs.Justified.{is_rejected, not_found, last_log, seq_of, Reached, AreReady, IsReady, IsStored}

-- ---- what is requested

abbrev pub pair_view : Recorded → Text × Text
pair_view r = (string_bytes r.session_id, string_bytes r.seq)

-- The sequence at which the current window of a run begins.
abbrev pub begin_of : Run → Text
begin_of run = seq_of (option_map pair_view run.begin)

abbrev pub wait_of : Run → Option ℕ
wait_of run = if run.waits then Some (if run.is_open then 5000 else 60000) else None

-- The documents that the relay transfers to the target by its current `carry` request.
abbrev pub part_of : Transfer → List DocView
part_of t = docs_view (take t.size (drop t.carried t.missing.items))

abbrev pub asked_by : Run → Stage → RequestView
asked_by run stages.TargetLog = get_log Target
asked_by run (stages.SourceLog target) = get_log Source
asked_by run stages.Changes = get_changes (string_bytes run.since) (wait_of run)
asked_by run (stages.Diff page) = revs_diff (docs_view page.rows.items)
asked_by run (stages.Carry t) = carry_docs (part_of t)
asked_by run (stages.Again t) = revs_diff (docs_view t.missing.items)
asked_by run (stages.TargetPut target source checkpoint) = put_log Target (log_view target) (checkpoint_view checkpoint)
asked_by run (stages.SourcePut source checkpoint) = put_log Source (log_view source) (checkpoint_view checkpoint)
asked_by run (stages.Done fault) = done (option_map fault_view fault) run.counts (begin_of run)

-- The next request of a run, given the phase (the run's state between two requests). If a notice (a message to the
-- user) is not yet printed, the next request prints the first such notice. If all notices are printed, the phase's
-- field `stage` determines the next request (`asked_by`). The field `stage` names the response that the run waits for.
abbrev pub asked_of : Phase → RequestView
asked_of phase = option_map_or (λ n. tell (notice_view n)) (slice_get phase.notices.items phase.told) (asked_by phase.run phase.stage)

-- ---- what is known

-- The relay has processed the pages of changes from sequence `begin` to sequence `since`. During the transfers of the
-- processed pages, the target refused `rejected` leaves, and no response showed that the target has them. The count
-- `failures` is at least the smaller of `rejected` and 2^64 - 1.
pub record IsReachedFrom (h : List Exchange) (begin since : Text) (failures : ℕ) : Type 0 where
  pub rejected : ℕ
  pub reached : Reached begin h since rejected
  pub counted : min rejected (2 ^ 64 - 1) ≤ failures

abbrev pub IsReached : List Exchange → Run → Type 0
IsReached h run = IsReachedFrom h (begin_of run) (string_bytes run.since) run.counts.doc_write_failures

-- The relay read the target's log after it had processed the pages from `begin` to `since`.
pub record IsRead (h : List Exchange) (begin since : Text) (failures : ℕ) (target : LogView) : Type 0 where
  pub before : List Exchange
  pub later : List Exchange
  pub is : h ≡ later ++ before
  pub target_is : last_log Target later ≡ Some target
  pub reached : IsReachedFrom before begin since failures

-- The source returned a page of changes, and the transfer of the page is in progress. A leaf of the page is in the
-- documents `missing` exactly if no later response has shown that the target has the leaf. The target refused each leaf
-- that the error rows `rows` name.
pub record IsOpen (h : List Exchange) (begin since last : Text) (failures : ℕ) (missing : List DocView) (rows : List RowErrorView) : Type 0 where
  pub before : List Exchange
  pub after : List Exchange
  pub wait : Option ℕ
  pub page : PageView
  pub is : h ≡ after ++ exchange_of (get_changes since wait) (page_response page) ∷ before
  pub reached : IsReachedFrom before begin since failures
  pub last_is : page.last_seq ≡ last
  pub missing_is : missing ≡ not_found after page.rows
  pub distinct : are_distinct page.rows ≡ true
  pub rejected : (id leaf : Text) → are_about rows id leaf ≡ true → is_rejected after id leaf ≡ true

abbrev pub IsOpenIn : List Exchange → Run → Text → List DocView → List RowErrorView → Type 0
IsOpenIn h run last missing rows = IsOpen h (begin_of run) (string_bytes run.since) last run.counts.doc_write_failures missing rows

abbrev pub IsOpenAt : List Exchange → Run → Transfer → Type 0
IsOpenAt h run t = IsOpenIn h run (string_bytes t.end.last_seq) (docs_view t.missing.items) (row_errors_view t.refused.items)

abbrev pub KnowsAt : List Exchange → Run → Stage → Type 0
KnowsAt h run stages.TargetLog = IsReached h run
KnowsAt h run (stages.SourceLog target) = IsRead h (begin_of run) (string_bytes run.since) run.counts.doc_write_failures (log_view target)
KnowsAt h run stages.Changes = IsReached h run
KnowsAt h run (stages.Diff page) = IsOpenIn h run (string_bytes page.last_seq) (docs_view page.rows.items) []
KnowsAt h run (stages.Carry t) = IsOpenAt h run t
KnowsAt h run (stages.Again t) = IsOpenAt h run t
KnowsAt h run (stages.TargetPut target source checkpoint) = IsReached h run × AreReady h (log_view target) (log_view source) (string_bytes checkpoint.seq) checkpoint.counts.doc_write_failures
KnowsAt h run (stages.SourcePut source checkpoint) = IsReached h run × IsReady h Source (log_view source) (string_bytes checkpoint.seq) checkpoint.counts.doc_write_failures × IsStored h (string_bytes checkpoint.seq)
KnowsAt h run (stages.Done fault) = Unit {0}

abbrev pub Knows : List Exchange → Phase → Type 0
Knows h phase = KnowsAt h phase.run phase.stage
