-- Defines the errors that a run between consistent peers may return, as specified in docs/PROFILE.md, "The pool".
use Rattle.std.specs.Prelude.{◌≡◌, true, Err}
use Rattle.repl_peer.specs.peer.Peer.{PeerValue, holds}
use Rattle.repl_peer.specs.declared.fault.TargetFault.TheVariants as refusals
use Rattle.repl_target.specs.declared.replication.Plan.{Plan}
use Rattle.pool_workers.specs.Faults.{IsLateOn, IsStepFault}
use Rattle.pool_workers.specs.declared.gate.Place.{Place}
use Rattle.pool_workers.specs.declared.fault.PoolFault.{PoolFault}
use Rattle.pool_workers.specs.declared.fault.PoolFault.TheVariants as faults
use Rattle.repl_pool.specs.Early.{early_answer}

-- The errors that a run between consistent peers may return. The run returns an error of the plan only if a check
-- before the run gives this error (`early_answer`). The run returns `SessionExists` only if the target already has the
-- plan's session. Any other error is `Unfinished`, an error of a worker's call (`IsStepFault`), or an error that
-- `IsLateOn` allows.
abbrev pub IsExpectedRun : Type 0 → (Place → Type 0) → PeerValue → PeerValue → Plan → PoolFault → Type 0
IsExpectedRun may_fill may_stop source target plan faults.NoWorkers =
    early_answer source target plan ≡ Err faults.NoWorkers
IsExpectedRun may_fill may_stop source target plan faults.TooManyWorkers =
    early_answer source target plan ≡ Err faults.TooManyWorkers
IsExpectedRun may_fill may_stop source target plan faults.BadBatch =
    early_answer source target plan ≡ Err faults.BadBatch
IsExpectedRun may_fill may_stop source target plan faults.SamePeer =
    early_answer source target plan ≡ Err faults.SamePeer
IsExpectedRun may_fill may_stop source target plan (faults.Refused refusals.SessionExists) =
    holds target.sessions plan.session ≡ true
IsExpectedRun may_fill may_stop source target plan (faults.Refused (refusals.Unfinished low_water)) = Unit {0}
IsExpectedRun may_fill may_stop source target plan (faults.Refused fault) = IsStepFault fault
IsExpectedRun may_fill may_stop source target plan fault = IsLateOn may_fill may_stop fault
