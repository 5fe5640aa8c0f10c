-- Defines the result and the effects of a run of the pool, as specified in docs/PROFILE.md, "The pool".
use Rattle.std.specs.Prelude.{◌≡◌, ◌⊎◌, ℕ, Bool, true, false, List, [], Option, Some, None, Result, Ok, Err, IfOk, IfErr, IfSome, sum}
use Rattle.std.specs.declared.alloc.AllocError.{AllocError}
use Rattle.doc_json.specs.Document.{Document}
use Rattle.doc_json.specs.Chosen.{Choice}
use Rattle.repl_log.specs.Entry.{EntryValue}
use Rattle.range_front.specs.Front.{low_water}
use Rattle.rev_tree.specs.declared.origin.SessionId.{SessionId}
use Rattle.repl_peer.specs.logs.Checkpoint.{rep_between}
use Rattle.repl_target.specs.Audit.{audit_answer, CoversFeed}
use Rattle.repl_peer.specs.peer.Backups.{BackupValue}
use Rattle.repl_target.specs.ties.Ties.{IsTiedPair, IsTiedWith, KeepsOthersTied}
use Rattle.repl_target.specs.replication.Calls.{IsGrown, IsLeft}
use Rattle.repl_peer.specs.peer.Later.{IsLaterPeer}
use Rattle.repl_peer.specs.peer.Peer.{PeerValue, SessionValue, session_in, entry_of}
use Rattle.repl_peer.specs.session.ReadCounts.{read_in}
use Rattle.repl_target.specs.replication.Replication.{PutsOver, closed, start_between, begins_answer, CoversFrom, IsReported, IsEmpty, SameDocuments}
use Rattle.repl_peer.specs.session.Sessions.{session_answer, record_answer, after_record, conclude_answer, after_conclude}
use Rattle.repl_peer.specs.declared.fault.Report.{Report}
use Rattle.repl_peer.specs.declared.fault.TargetFault.{TargetFault}
use Rattle.repl_peer.specs.declared.fault.TargetFault.TheVariants as refusals
use Rattle.repl_target.specs.declared.replication.Plan.{Plan}
use Rattle.pool_workers.specs.Faults.{IsLateOn, IsHaltOn}
use Rattle.pool_workers.specs.Paging.{KeepsPages}
use Rattle.pool_workers.specs.declared.gate.Place.{Place}
use Rattle.pool_workers.specs.declared.fault.PoolFault.{PoolFault}
use Rattle.pool_workers.specs.declared.fault.PoolFault.TheVariants as faults
use Rattle.repl_pool.specs.Early.{early_answer}
use Rattle.repl_pool.specs.Expected.{IsExpectedRun}
use Rattle.repl_pool.specs.Pages.{IsPaged}

-- ---- end of a run

-- The session of the given run was concluded. No worker failed or stopped, and all sent parcels were received.
pub record IsConcluded (plan : Plan) (fault : Option PoolFault) (complete : Bool) (before after : PeerValue)
    (report : Report) : Type 0 where
  pub free : fault ≡ None
  pub whole : complete ≡ true
  pub answer : conclude_answer before plan.session ≡ Ok report
  pub peer : after ≡ after_conclude before plan.session plan.at

-- The error of a run that did not conclude its session, but only recorded the session's low water. The error is
-- `Unfinished` with the session's low water, or the error of recording the session.
abbrev pub unfinished_at : Result ℕ TargetFault → PoolFault
unfinished_at (Ok low_water) = faults.Refused (refusals.Unfinished low_water)
unfinished_at (Err why) = faults.Refused why

-- A run did not conclude its session, but only recorded the session's low water. A run concludes its session unless an
-- allocation failed, a worker failed or stopped, a sent parcel was not received, or concluding failed.
pub data IsRecorded (plan : Plan) (fault : Option PoolFault) (complete : Bool) (before after : PeerValue) : PoolFault
    → Type 0 where
  stopped : {why : PoolFault} → fault ≡ Some why → after ≡ after_record before plan.session plan.at
      → IsRecorded plan fault complete before after why
  fewer : fault ≡ None → complete ≡ false → after ≡ after_record before plan.session plan.at
      → IsRecorded plan fault complete before after (unfinished_at (record_answer before plan.session))
  refused : {why : TargetFault} → fault ≡ None → complete ≡ true → conclude_answer before plan.session ≡ Err why
      → after ≡ closed before plan → IsRecorded plan fault complete before after (faults.Refused why)

-- The first argument of `UnlessMemory` is a run's outcome before the source stores the session's log entry. The second
-- argument is the run's final outcome, after the source has stored the entry or failed to store it. If the first
-- outcome is a success, the final outcome is the same success, or the error `Memory`. If the first outcome is an error,
-- the final outcome is the same error.
abbrev pub UnlessMemory : Result Report PoolFault → Result Report PoolFault → Type 0
UnlessMemory (Ok report) result = (result ≡ Ok report) ⊎ (result ≡ Err faults.Memory)
UnlessMemory (Err why) result = result ≡ Err why

-- The source stores the entry of the target's session, unless the source has stored a newer entry or the allocation for
-- the entry fails. If the run succeeded, the allocation for the entry did not fail.
pub record PutsEntry (source target source' : PeerValue) (plan : Plan) (outcome : Result Report PoolFault) : Type 0
  where
    pub entry : EntryValue
    pub told : session_answer target plan.session (λ s. Ok (entry_of s)) ≡ Ok entry
    pub put : Result (Unit {0}) AllocError
    pub puts : PutsOver source (rep_between source target plan.chosen) entry put source'
    pub done : IfOk outcome (λ _. put ≡ Ok tt)

-- How the last steps of a run of the pool change both peers. When a run ends, the target either concludes the run's
-- session (`IsConcluded`) or only records the session's low water (`IsRecorded`). The source then stores the log entry
-- of the run's session (`PutsEntry`).
pub data ClosesRun (plan : Plan) (fault : Option PoolFault) (complete : Bool)
    (source before source' after : PeerValue) : Result Report PoolFault → Type 0 where
  concluded : {report : Report} {outcome : Result Report PoolFault}
      → IsConcluded plan fault complete before after report
      → UnlessMemory (Ok report) outcome
      → PutsEntry source after source' plan outcome
      → ClosesRun plan fault complete source before source' after outcome
  recorded : {why : PoolFault} → IsRecorded plan fault complete before after why
      → PutsEntry source after source' plan (Err why)
      → ClosesRun plan fault complete source before source' after (Err why)

-- What the workers of a run of the pool have done, and how the last steps of the run then change both peers. Only calls
-- for the run's session have changed the target from the state `given` to the state `before`. The windows of the run's
-- session are pages of the source's feed. If a worker stopped early, the run fails with an error that `IsHaltOn`
-- allows. If no worker stopped and all sent parcels were received, the session's number of read documents is the sum of
-- the fetchers' counts.
pub record EndsRun {F : Type 0} (refuses : F → Document → Bool) (may_fill : Type 0) (may_stop : Place → Type 0)
    (plan : Plan) (source : PeerValue) (given : F × PeerValue) (counts : List ℕ) (source' after : PeerValue)
    (outcome : Result Report PoolFault) : Type 0 where
  pub fault : Option PoolFault
  pub complete : Bool
  pub before : PeerValue
  pub grown : IsGrown (refuses given.0) source.db plan.chosen plan.session given.1 before
  pub more : Option ℕ
  pub paged : KeepsPages source.db plan plan.session more before.sessions
  pub late : IfSome fault (IsHaltOn may_fill may_stop)
  pub read : fault ≡ None → complete ≡ true → read_in before.sessions plan.session ≡ sum counts
  pub ends : ClosesRun plan fault complete source before source' after outcome

-- ---- a run

-- If the plan of a run is invalid, the run returns the plan's error, changes neither peer, and fetches no document. If
-- the plan of a run is valid, the run does not return an error of the plan.
abbrev pub EarlyOrLate : {F : Type 0} → Type 0 → (Place → Type 0) → Result (Unit {0}) PoolFault → F × PeerValue
    → F × PeerValue → F × PeerValue → F × PeerValue → List ℕ → Result Report PoolFault → Type 0
EarlyOrLate may_fill may_stop (Err why) source target source' target' fetched outcome =
    (outcome ≡ Err why) × (source' ≡ source) × (target' ≡ target) × (fetched ≡ [])
EarlyOrLate may_fill may_stop (Ok done) source target source' target' fetched outcome =
    IfErr outcome (IsLateOn may_fill may_stop)

-- The error of a run whose session has not begun: an error of the plan, `Memory`, or the error of beginning the
-- session.
abbrev pub IsUnbegunFor : PeerValue → PeerValue → Plan → PoolFault → Type 0
IsUnbegunFor source target plan fault =
    (early_answer source target plan ≡ Err fault)
    ⊎ (fault ≡ faults.Refused refusals.Memory)
    ⊎ (why : TargetFault) × (begins_answer source target plan ≡ Err why) × (fault ≡ faults.Refused why)

-- The session of a run has not begun, and the run's error says why.
pub record IsUnbegun (source target : PeerValue) (plan : Plan) (outcome : Result Report PoolFault) : Type 0 where
  pub fault : PoolFault
  pub told : outcome ≡ Err fault
  pub due : IsUnbegunFor source target plan fault

-- If the error of a run is `Unfinished`, the error has the low water of the run's session. The run's session has
-- recorded the low water.
abbrev pub TellsLowWater : PeerValue → SessionId → PoolFault → Type 0
TellsLowWater target run (faults.Refused (refusals.Unfinished n)) =
    (s : SessionValue) × (session_in target.sessions run ≡ Some s) × (n ≡ low_water s.front) × (n ≡ s.recorded)
TellsLowWater target run fault = Unit {0}

-- The session of a run has begun, and the session's windows are pages of the source's feed. The source stores the
-- session's log entry, with the exceptions that `PutsEntry` names.
pub record IsBegun (source target source' target' : PeerValue) (plan : Plan) (outcome : Result Report PoolFault) : Type 0
  where
    pub begun : begins_answer source target plan ≡ Ok tt
    pub paged : IsPaged source target target' plan
    pub put : PutsEntry source target' source' plan outcome
    pub unfinished : IfErr outcome (TellsLowWater target' plan.session)

-- The effect of a run on the source and the target. If the run's session has not begun, both peers are unchanged. If
-- the session has begun, the source stores the session's log entry, with the exceptions that `PutsEntry` names.
abbrev pub LeavesOrPuts : {F : Type 0} → Plan → F × PeerValue → F × PeerValue → F × PeerValue → F × PeerValue
    → Result Report PoolFault → Type 0
LeavesOrPuts plan source target source' target' outcome =
    (source' ≡ source) × (target' ≡ target) × IsUnbegun source.1 target.1 plan outcome
    ⊎ IsBegun source.1 target.1 source'.1 target'.1 plan outcome

-- The guarantees of a successful run. A successful run returns the report of the plan's session, which began at the
-- common checkpoint and has recorded the source's update sequence. After a successful run, the target covers the
-- source's selected feed above the common checkpoint. If the target was empty before the run and refused no document,
-- each selected document is the same at the source and at the target after the run. After a successful run, the sum of
-- the fetchers' counts of documents is the report's number of documents read.
pub record EndsWell (source target target' : PeerValue) (plan : Plan) (n : ℕ) (report : Report) : Type 0 where
  pub reported : IsReported source target target' plan report
  pub covered : CoversFrom source target' plan.chosen (start_between source target plan.chosen)
  pub copied : IsEmpty target → report.counts.failures ≡ 0 → SameDocuments plan.chosen source.db target'.db
  pub sum : n ≡ report.counts.read

-- The filter is unchanged. If the target has changed, the first change began the plan's session, and only calls for
-- this session (`IsGrown`) changed the target afterwards.
abbrev pub LeftPeer : {F : Type 0} → (F → Document → Bool) → PeerValue → F × PeerValue → Plan → F × PeerValue → Type 0
LeftPeer refuses source given plan now = (now.0 ≡ given.0) × IsLeft (refuses given.0) source given.1 plan now.1

-- The guarantees about the result of a run of the pool and about the two peers that the run returns. The run may return
-- `BoardFull`, the error of a full counter on the progress board, only if the statement `may_fill` is true.
pub record RunsOn {F : Type 0} (refuses : F → Document → Bool) (may_fill : Type 0) (may_stop : Place → Type 0)
    (plan : Plan) (source target source' target' : F × PeerValue) (fetched : List ℕ) (outcome : Result Report PoolFault)
    : Type 0 where
  -- If the plan fails a check, the run returns the error of the first failed check. If the plan is valid, the run
  -- returns no error of the plan. A run with a valid plan never returns `Hole`, the error about a leaf that the target
  -- does not cover. A run with a valid plan returns `Halted` only if the caller's `Gate` may stop a worker at the stage
  -- that the error names. A run with a valid plan returns `BoardFull` only if `may_fill` is true.
  pub early : EarlyOrLate may_fill may_stop (early_answer source.1 target.1 plan) source target source' target' fetched
      outcome
  -- At the source, a run changes only the outgoing logs.
  pub filter : source'.0 ≡ source.0
  pub log : source'.1 ≡ record source.1 { outgoing = source'.1.outgoing }
  -- A run changes its target only by beginning the session, and by calls for this session with messages from the
  -- source.
  pub grown : LeftPeer refuses source.1 target plan target'
  -- A run's target keeps all sessions and revisions, as `IsLaterPeer` says. For every selection and all backups of the
  -- source, the two peers are consistent after the run if they were consistent before.
  pub later : IsLaterPeer target.1 target'.1
  pub tied : (chosen : Choice) (backups : List BackupValue) → IsTiedWith backups source.1 target.1 chosen
      → IsTiedWith backups source'.1 target'.1 chosen
  -- A third peer that was consistent with the source or the target of a run stays consistent, under the conditions of
  -- `KeepsOthersTied`.
  pub others : KeepsOthersTied source.1 target.1 source'.1 target'.1
  -- If the peers were consistent before a run, an audit of the peers after the run reports nothing.
  pub audited : (chosen : Choice) → IsTiedPair source.1 target.1 chosen
      → audit_answer source'.1 target'.1 chosen ≡ None
  -- If a run's session has not begun, both peers are unchanged and the error gives the reason. If a run's session has
  -- begun, the session's windows are pages of the source's feed. The source then stores the session's log entry, with
  -- the exceptions that `PutsEntry` names.
  pub put : LeavesOrPuts plan source target source' target' outcome
  -- If the peers of a run were consistent, the error of the run is one that `IsExpectedRun` lists.
  pub expected : IfErr outcome
      (λ why. IsTiedPair source.1 target.1 plan.chosen
      → IsExpectedRun may_fill may_stop source.1 target.1 plan why)
  -- The guarantees of a run that succeeded.
  pub well : IfOk outcome (EndsWell source.1 target.1 target'.1 plan (sum fetched))
  -- If the peers were consistent before a successful run, the target then covers the source's complete selected feed,
  -- also below the session's start.
  pub whole : IfOk outcome
      (λ _. IsTiedPair source.1 target.1 plan.chosen
      → CoversFeed source.1 target'.1 plan.chosen source.1.db.update_seq)

-- The result of a run without a progress board, and the two peers that the run returns.
abbrev pub Runs : {F : Type 0} → (F → Document → Bool) → (Place → Type 0) → Plan → F × PeerValue → F × PeerValue
    → F × PeerValue → F × PeerValue → List ℕ → Result Report PoolFault → Type 0
Runs refuses may_stop plan source target source' target' fetched outcome =
    RunsOn refuses ⊥ may_stop plan source target source' target' fetched outcome
