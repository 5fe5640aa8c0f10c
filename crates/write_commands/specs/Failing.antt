-- Defines the errors of a replication between consistent databases, and of a restore, as specified in docs/PROFILE.md,
-- "Order of checks" and "Names of refusals".
use Rattle.std.specs.Prelude.{◌≡◌, Bool, true, false}
use Rattle.script_databases.specs.declared.refusal.Refusal.{Refusal}
use Rattle.script_databases.specs.declared.refusal.Refusal.TheVariants as why

-- The errors with which a replication by one thread may fail.
abbrev pub FailsAlone : Refusal → Type 0
FailsAlone why.BadBatch = Unit {0}
FailsAlone why.SamePeer = Unit {0}
FailsAlone why.SessionExists = Unit {0}
FailsAlone why.CountFull = Unit {0}
FailsAlone why.Stopped = Unit {0}
FailsAlone why.Memory = Unit {0}
FailsAlone refusal = ⊥

-- The errors with which a replication by the pool may fail. The argument `progress` says whether the run has a board.
abbrev pub FailsInPool : Bool → Refusal → Type 0
FailsInPool progress why.NoWorkers = Unit {0}
FailsInPool progress why.TooManyWorkers = Unit {0}
FailsInPool progress why.BoardFull = progress ≡ true
FailsInPool progress why.Gap = Unit {0}
FailsInPool progress why.ForeignParcel = Unit {0}
FailsInPool progress why.AlreadyDone = Unit {0}
FailsInPool progress why.Uncovered = Unit {0}
FailsInPool progress refusal = FailsAlone refusal

-- The errors with which a replication may fail. `Fails true` lists the errors of a replication by one thread, and
-- `Fails false` lists the errors of a replication by the pool.
abbrev pub Fails : Bool → Bool → Refusal → Type 0
Fails true progress refusal = FailsAlone refusal
Fails false progress refusal = FailsInPool progress refusal

-- The errors with which a restore may fail.
abbrev pub FailsRestoring : Refusal → Type 0
FailsRestoring why.NoDatabase = Unit {0}
FailsRestoring why.NoBackup = Unit {0}
FailsRestoring why.IsTarget = Unit {0}
FailsRestoring why.LifeFull = Unit {0}
FailsRestoring refusal = ⊥
