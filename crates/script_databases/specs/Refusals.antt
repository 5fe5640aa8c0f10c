-- Defines the errors with which a line of a script may fail, as specified in docs/PROFILE.md, "Order of checks", "Names
-- of refusals" and "Answers".
use Rattle.std.specs.Prelude.{◌≡◌, ◌⊎◌, ℕ, List, Result, Ok, Err, codes}
use Rattle.rev_core.specs.declared.fault.RevFault.{RevFault}
use Rattle.rev_core.specs.declared.fault.RevFault.TheVariants as rev
use Rattle.doc_json.specs.declared.fault.DocFault.{DocFault}
use Rattle.doc_json.specs.declared.fault.DocFault.TheVariants as doc
use Rattle.couch_base.specs.declared.fault.BaseFault.{BaseFault}
use Rattle.couch_base.specs.declared.fault.BaseFault.TheVariants as base
use Rattle.repl_log.specs.declared.fault.LogFault.{LogFault}
use Rattle.repl_log.specs.declared.fault.LogFault.TheVariants as log
use Rattle.pool_workers.specs.declared.fault.PoolFault.{PoolFault}
use Rattle.pool_workers.specs.declared.fault.PoolFault.TheVariants as pool
use Rattle.repl_peer.specs.declared.fault.TargetFault.{TargetFault}
use Rattle.repl_peer.specs.declared.fault.TargetFault.TheVariants as target
use Rattle.script_databases.specs.declared.refusal.Refusal.{Refusal}
use Rattle.script_databases.specs.declared.refusal.Refusal.TheVariants as why

-- The result of a call is the expected result, or the error `Memory`.
abbrev pub GivesOrMemory : {A : Type 0} → Result A Refusal → Result A Refusal → Type 0
GivesOrMemory (Ok x) expected = expected ≡ Ok x
GivesOrMemory (Err e) expected = (expected ≡ Err e) ⊎ (e ≡ why.Memory)

-- ---- errors of lower crates

abbrev pub doc_refusal : DocFault → Refusal
doc_refusal doc.NotObject = why.NotObject
doc_refusal doc.NoId = why.NoId
doc_refusal doc.ReservedId = why.ReservedId
doc_refusal doc.Attachments = why.Attachments
doc_refusal doc.SpecialMember = why.SpecialMember
doc_refusal doc.NoRev = why.NoRev
doc_refusal doc.BadRevisions = why.BadRevisions
doc_refusal doc.RevMismatch = why.RevMismatch
doc_refusal doc.Fraction = why.Fraction
doc_refusal doc.NoneChosen = why.NoneChosen
doc_refusal doc.TooManyChosen = why.TooManyChosen
doc_refusal doc.Memory = why.Memory

abbrev pub rev_refusal : RevFault → Refusal
rev_refusal rev.BadGeneration = why.BadGeneration
rev_refusal rev.BadSig = why.BadSig
rev_refusal rev.NoIds = why.BadRevisions
rev_refusal rev.StartTooSmall = why.BadRevisions
rev_refusal rev.GenerationFull = why.GenerationFull
rev_refusal rev.Memory = why.Memory

abbrev pub base_refusal : BaseFault → Refusal
base_refusal (base.Contradiction child known given) = why.Contradiction
base_refusal base.SeqFull = why.SeqFull
base_refusal base.SeqTooLarge = why.SeqTooLarge
base_refusal base.BadLimit = why.BadLimit
base_refusal base.BadRange = why.BadRange
base_refusal (base.GoalAhead seq) = why.GoalAhead
base_refusal base.NoSuchDocument = why.NoSuchDocument
base_refusal base.Conflict = why.Conflict
base_refusal base.GenerationFull = why.GenerationFull
base_refusal (base.RevExists r) = why.RevExists
base_refusal base.Memory = why.Memory

abbrev pub log_refusal : LogFault → Refusal
log_refusal log.BadMoment = why.BadMoment
log_refusal (log.Older stored) = why.Older
log_refusal log.EmptyLog = why.EmptyLog
log_refusal log.Memory = why.Memory

-- The error with which a line fails if a call on a peer returned the given error.
abbrev pub target_refusal : TargetFault → Refusal
target_refusal target.SessionExists = why.SessionExists
target_refusal target.NoSuchBase = why.NoSuchBase
target_refusal (target.StartAboveBase recorded) = why.StartAboveBase
target_refusal target.GoalBelowStart = why.GoalBelowStart
target_refusal target.NoSuchSession = why.NoSuchSession
target_refusal (target.OtherLife now) = why.OtherLife
target_refusal (target.Gap expected) = why.Gap
target_refusal target.PastGoal = why.PastGoal
target_refusal target.ForeignParcel = why.ForeignParcel
target_refusal target.AlreadyDone = why.AlreadyDone
target_refusal target.CountFull = why.CountFull
target_refusal (target.Stopped settled rest cause) = why.Stopped
target_refusal (target.Uncovered seq id rev) = why.Uncovered
target_refusal (target.Unfinished low_water) = why.Unfinished
target_refusal (target.Older stored) = why.Older
target_refusal target.IsTarget = why.IsTarget
target_refusal target.ForeignBackup = why.ForeignBackup
target_refusal target.LifeFull = why.LifeFull
target_refusal target.BadBatch = why.BadBatch
target_refusal target.SamePeer = why.SamePeer
target_refusal target.Memory = why.Memory

-- How a script line ends if its replication returned an error. After the error `Unfinished`, the value is the low
-- water. After an error other than `Unfinished`, the value is the error with which the script line fails.
abbrev pub stop_of : TargetFault → Result ℕ Refusal
stop_of (target.Unfinished low_water) = Ok low_water
stop_of fault = Err (target_refusal fault)

-- How a script line ends if its replication with a pool of threads returned an error. After the error `Unfinished`, the
-- value is the low water. After an error other than `Unfinished`, the value is the error with which the script line
-- fails.
abbrev pub run_stop_of : PoolFault → Result ℕ Refusal
run_stop_of pool.NoWorkers = Err why.NoWorkers
run_stop_of pool.TooManyWorkers = Err why.TooManyWorkers
run_stop_of pool.BadBatch = Err why.BadBatch
run_stop_of pool.SamePeer = Err why.SamePeer
run_stop_of (pool.Refused fault) = stop_of fault
run_stop_of (pool.Halted place) = Err why.Halted
run_stop_of (pool.Hole seq id rev) = Err why.Hole
run_stop_of pool.CountFull = Err why.CountFull
run_stop_of pool.BoardFull = Err why.BoardFull
run_stop_of pool.Memory = Err why.Memory

-- The result of a call. If the call failed, the function `name` converts the call's error to the error of a script
-- line.
abbrev pub told_as : {A E : Type 0} → (E → Refusal) → Result A E → Result A Refusal
told_as name (Ok x) = Ok x
told_as name (Err fault) = Err (name fault)

-- ---- the printed names

abbrev pub name_of : Refusal → List ℕ
name_of why.BadLine = codes "BadLine"
name_of why.BadCommand = codes "BadCommand"
name_of why.NoDatabase = codes "NoDatabase"
name_of why.DatabaseExists = codes "DatabaseExists"
name_of why.UuidTaken = codes "UuidTaken"
name_of why.NoId = codes "NoId"
name_of why.ReservedId = codes "ReservedId"
name_of why.BadGeneration = codes "BadGeneration"
name_of why.BadSig = codes "BadSig"
name_of why.NotObject = codes "NotObject"
name_of why.Attachments = codes "Attachments"
name_of why.SpecialMember = codes "SpecialMember"
name_of why.NoRev = codes "NoRev"
name_of why.BadRevisions = codes "BadRevisions"
name_of why.RevMismatch = codes "RevMismatch"
name_of why.Fraction = codes "Fraction"
name_of why.NoSuchDocument = codes "NoSuchDocument"
name_of why.NoSuchRevision = codes "NoSuchRevision"
name_of why.Contradiction = codes "Contradiction"
name_of why.Conflict = codes "Conflict"
name_of why.GenerationFull = codes "GenerationFull"
name_of why.RevExists = codes "RevExists"
name_of why.SeqFull = codes "SeqFull"
name_of why.SeqTooLarge = codes "SeqTooLarge"
name_of why.BadLimit = codes "BadLimit"
name_of why.BadRange = codes "BadRange"
name_of why.GoalAhead = codes "GoalAhead"
name_of why.NoneChosen = codes "NoneChosen"
name_of why.TooManyChosen = codes "TooManyChosen"
name_of why.BadMoment = codes "BadMoment"
name_of why.EmptyLog = codes "EmptyLog"
name_of why.Older = codes "Older"
name_of why.SessionExists = codes "SessionExists"
name_of why.NoSuchBase = codes "NoSuchBase"
name_of why.StartAboveBase = codes "StartAboveBase"
name_of why.GoalBelowStart = codes "GoalBelowStart"
name_of why.NoSuchSession = codes "NoSuchSession"
name_of why.Gap = codes "Gap"
name_of why.PastGoal = codes "PastGoal"
name_of why.ForeignParcel = codes "ForeignParcel"
name_of why.AlreadyDone = codes "AlreadyDone"
name_of why.CountFull = codes "CountFull"
name_of why.Stopped = codes "Stopped"
name_of why.Uncovered = codes "Uncovered"
name_of why.Unfinished = codes "Unfinished"
name_of why.BadBatch = codes "BadBatch"
name_of why.SamePeer = codes "SamePeer"
name_of why.NoWorkers = codes "NoWorkers"
name_of why.TooManyWorkers = codes "TooManyWorkers"
name_of why.Halted = codes "Halted"
name_of why.Hole = codes "Hole"
name_of why.BoardFull = codes "BoardFull"
name_of why.OtherLife = codes "OtherLife"
name_of why.IsTarget = codes "IsTarget"
name_of why.ForeignBackup = codes "ForeignBackup"
name_of why.LifeFull = codes "LifeFull"
name_of why.BackupExists = codes "BackupExists"
name_of why.NoBackup = codes "NoBackup"
name_of why.Memory = codes "Memory"
