-- Defines the outcome of a task, and the exit status of the program `couch_journal`.
use Rattle.std.specs.Prelude.{ℕ, Bool, true, false, if◌then◌else◌, Option, None, Some, Result, Ok, Err}
use Rattle.clap.specs.Words.{kind_of}
use Rattle.cli_common.specs.Status.{kind_status}
use Rattle.script_engine.specs.declared.fault.ScriptFault.{ScriptFault}
use Rattle.script_engine.specs.declared.fault.ScriptFault.TheVariants as faults
use Rattle.journal_responses.specs.declared.said.Said.TheVariants.{Other}
use Rattle.couch_journal.specs.declared.options.NoTask.{NoTask}
use Rattle.couch_journal.specs.declared.options.NoTask.TheVariants.{Words, Unknown, Memory}
use Rattle.couch_journal.specs.declared.ended.Outcome.{Outcome}
use Rattle.couch_journal.specs.declared.ended.Outcome.TheVariants.{Damaged, Differs, Done, Missing, NoSums, Said, Wrong}
use Rattle.couch_journal.specs.declared.ended.Ended.{Ended}
use Rattle.couch_journal.specs.declared.ended.Ended.TheVariants.{NotRun, Ran}

-- The outcome of a task: `Wrong` with the number of the first wrong line, or the given outcome `otherwise` if no line
-- is wrong.
abbrev pub wrong_or : Option ℕ → Outcome → Outcome
wrong_or (Some line) otherwise = Wrong line
wrong_or None otherwise = otherwise

-- The outcome of a task that reads a journal: `Damaged` with the number of confirmed lines if the journal is damaged,
-- and the given outcome `otherwise` if the journal is not damaged.
abbrev pub damaged_or : Bool → ℕ → Outcome → Outcome
damaged_or damaged lines otherwise = if damaged then Damaged lines else otherwise

-- The outcome of the task `confirm`: `Missing` if no block has the given sequence (`missing`), and `Done` if a sequence is
-- given or the complete journal is confirmed (`all`). Otherwise the outcome is `NoSums` if the journal has no checksums,
-- or `Damaged` with the number of confirmed lines.
abbrev pub confirm_outcome : Bool → Bool → Bool → ℕ → Outcome
confirm_outcome missing all without lines =
    if missing then Missing else if all then Done else if without then NoSums else Damaged lines

-- The outcome of a task that reads two copies of a journal: `Differs` if the copies differ, and the given outcome
-- `otherwise` if they do not.
abbrev pub differs_or : Bool → Outcome → Outcome
differs_or differs otherwise = if differs then Differs else otherwise

-- The outcome of a task is `Missing` if the task found that something is missing, and otherwise `Done`.
abbrev pub missing_or_done : Bool → Outcome
missing_or_done true = Missing
missing_or_done false = Done

-- The outcome of a task is `Said Other` if the response does not have the form that the task reads. If the response has
-- this form, the outcome of the task is `Done`.
abbrev pub other_or_done : Bool → Outcome
other_or_done true = Said Other
other_or_done false = Done

-- The exit status after a task: 0 if the task succeeded, 1 if something is missing, otherwise 3.
abbrev pub status_of : Result Outcome ScriptFault → ℕ
status_of (Ok Done) = 0
status_of (Ok Missing) = 1
status_of (Ok other) = 3
status_of (Err fault) = 3

-- The exit status if the arguments name no task.
abbrev pub words_status : NoTask → ℕ
words_status (Words error) = kind_status (kind_of error)
words_status Unknown = 2
words_status Memory = 3

abbrev pub ended_status : Ended → ℕ
ended_status (NotRun why) = words_status why
ended_status (Ran result) = status_of result

-- The result of a task whose last output could not be flushed. A failed flush replaces the outcomes `Done` and
-- `Missing` of a task by the error `Write`, and leaves any other result unchanged.
abbrev pub unwritten : Result Outcome ScriptFault → Result Outcome ScriptFault
unwritten (Ok Done) = Err faults.Write
unwritten (Ok Missing) = Err faults.Write
unwritten (Ok other) = Ok other
unwritten (Err fault) = Err fault

abbrev pub unflushed : Ended → Ended
unflushed (NotRun why) = NotRun why
unflushed (Ran result) = Ran (unwritten result)
