-- Defines the errors with which a run of the pool may fail, as specified in docs/PROFILE.md, "The pool".
use Rattle.std.specs.Prelude.{◌≡◌, ◌⊎◌, Option, Some}
use Rattle.repl_peer.specs.declared.fault.TargetFault.{TargetFault}
use Rattle.repl_peer.specs.declared.fault.TargetFault.TheVariants as refusals
use Rattle.pool_workers.specs.declared.gate.Place.{Place}
use Rattle.pool_workers.specs.declared.fault.Halt.{Halt}
use Rattle.pool_workers.specs.declared.fault.Halt.TheVariants as halts
use Rattle.pool_workers.specs.declared.fault.PoolFault.{PoolFault}
use Rattle.pool_workers.specs.declared.fault.PoolFault.TheVariants as faults

-- The errors that a run with a valid plan may return. A run returns `Halted` only if the gate, a callback, may stop
-- workers at the stage that the error names. A run returns `BoardFull` only if `may_fill` is true. A run never returns
-- `Hole`, the error about a leaf that the target does not cover.
abbrev pub IsLateOn : Type 0 → (Place → Type 0) → PoolFault → Type 0
IsLateOn may_fill may_stop faults.NoWorkers = ⊥
IsLateOn may_fill may_stop faults.TooManyWorkers = ⊥
IsLateOn may_fill may_stop faults.BadBatch = ⊥
IsLateOn may_fill may_stop faults.SamePeer = ⊥
IsLateOn may_fill may_stop (faults.Hole seq id rev) = ⊥
IsLateOn may_fill may_stop (faults.Halted place) = may_stop place
IsLateOn may_fill may_stop faults.BoardFull = may_fill
IsLateOn may_fill may_stop fault = Unit {0}

-- ---- errors from workers' halts

-- The errors with which a worker's call on the run's target may fail.
abbrev pub IsStepFault : TargetFault → Type 0
IsStepFault (refusals.Gap expected) = Unit {0}
IsStepFault refusals.ForeignParcel = Unit {0}
IsStepFault refusals.AlreadyDone = Unit {0}
IsStepFault refusals.CountFull = Unit {0}
IsStepFault (refusals.Stopped settled rest cause) = Unit {0}
IsStepFault (refusals.Uncovered seq id rev) = Unit {0}
IsStepFault refusals.Memory = Unit {0}
IsStepFault fault = ⊥

-- The errors that a run may return if a worker halted.
abbrev pub IsHaltOn : Type 0 → (Place → Type 0) → PoolFault → Type 0
IsHaltOn may_fill may_stop (faults.Refused fault) = IsStepFault fault
IsHaltOn may_fill may_stop fault = IsLateOn may_fill may_stop fault

-- The error that a run returns for a worker's halt.
abbrev pub fault_of : Halt → PoolFault
fault_of (halts.Stopped place) = faults.Halted place
fault_of (halts.Refused fault) = faults.Refused fault
fault_of halts.CountFull = faults.CountFull
fault_of halts.BoardFull = faults.BoardFull
fault_of halts.Memory = faults.Memory
fault_of halts.Lost = faults.Memory

-- The reasons for which a worker may halt. A worker halts with `Stopped` at a stage only if the gate (a callback) may
-- stop workers at this stage. A worker halts with `BoardFull` only if `may_fill` is true. If a call on the target
-- failed, the error satisfies `IsStepFault`.
abbrev pub AllowsOn : Type 0 → (Place → Type 0) → Halt → Type 0
AllowsOn may_fill may_stop (halts.Stopped place) = may_stop place
AllowsOn may_fill may_stop (halts.Refused fault) = IsStepFault fault
AllowsOn may_fill may_stop halts.BoardFull = may_fill
AllowsOn may_fill may_stop halt = Unit {0}

-- The reasons for which a worker may halt in a run without a progress board.
abbrev pub Allows : (Place → Type 0) → Halt → Type 0
Allows may_stop halt = AllowsOn ⊥ may_stop halt

-- A worker's halt is `CountFull` only if the statement `count` is true, and is `BoardFull` only if the statement
-- `board` is true.
abbrev pub SaysFull : Type 0 → Type 0 → Halt → Type 0
SaysFull count board halts.CountFull = count
SaysFull count board halts.BoardFull = board
SaysFull count board halt = Unit {0}

-- A halt is neither `CountFull` nor `BoardFull`.
abbrev pub SaysNoFull : Halt → Type 0
SaysNoFull halt = SaysFull ⊥ ⊥ halt

-- The halts a, b and c are optional reasons why workers stopped early. The run returns the error (`fault_of`) for one
-- of the halts a, b and c.
abbrev pub IsOneFault : Option Halt → Option Halt → Option Halt → PoolFault → Type 0
IsOneFault a b c fault =
    (halt : Halt) × (fault ≡ fault_of halt) × ((a ≡ Some halt) ⊎ ((b ≡ Some halt) ⊎ (c ≡ Some halt)))
