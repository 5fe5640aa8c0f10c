-- Defines the exit status of the program `couch_lines`, as specified in docs/PROFILE.md, "Options of `couch_lines`".
use Rattle.std.specs.Prelude.{ℕ, ◌==◌, ◌&&◌, cond, Result, Ok, Err}
use Rattle.clap.specs.Words.{kind_of}
use Rattle.cli_common.specs.Status.{kind_status}
use Rattle.script_engine.specs.declared.fault.ScriptFault.{ScriptFault}
use Rattle.script_engine.specs.declared.fault.ScriptFault.TheVariants as faults
use Rattle.response_output.specs.declared.run.AnswerFault.{AnswerFault}
use Rattle.diagrams.specs.declared.tally.Outcome.{Outcome}
use Rattle.response_output.specs.declared.run.AnswerFault.TheVariants.{Device}
use Rattle.couch_lines.specs.declared.options.NoTask.{NoTask}
use Rattle.couch_lines.specs.declared.options.NoTask.TheVariants.{Words, Unknown, Wrong, Memory}
use Rattle.couch_lines.specs.declared.run.Ended.{Ended}
use Rattle.couch_lines.specs.declared.run.Ended.TheVariants.{NotRun, Ran, Drawn}

-- The exit status of `couch_lines` after a conversion: 0, or 1 if an object was skipped, or 3 after an error.
abbrev pub status_of : Result ℕ AnswerFault → ℕ
status_of (Ok passed) = cond (passed == 0) 0 1
status_of (Err fault) = 3

-- The exit status of `couch_lines` after a drawing: 0, or 3 after an error. The exit status is 1 if memory was
-- insufficient for a line, or if `couch_replicate` does not print a line of the input.
abbrev pub drawn_status : Result Outcome ScriptFault → ℕ
drawn_status (Ok drawn) = cond (drawn.clean && drawn.tally.unknown == 0) 0 1
drawn_status (Err fault) = 3

-- The exit status of `couch_lines` if the arguments name no task.
abbrev pub words_status : NoTask → ℕ
words_status (Words error) = kind_status (kind_of error)
words_status Unknown = 2
words_status (Wrong named) = 2
words_status Memory = 3

abbrev pub ended_status : Ended → ℕ
ended_status (NotRun why) = words_status why
ended_status (Ran run) = status_of run.ended
ended_status (Drawn ended) = drawn_status ended

-- The result of a conversion whose last output could not be flushed: the conversion's earlier error if there is one,
-- and otherwise `Write`.
abbrev pub unwritten : Result ℕ AnswerFault → Result ℕ AnswerFault
unwritten (Ok passed) = Err (Device faults.Write)
unwritten (Err fault) = Err fault

abbrev pub undrawn : Result Outcome ScriptFault → Result Outcome ScriptFault
undrawn (Ok drawn) = Err faults.Write
undrawn (Err fault) = Err fault

abbrev pub unflushed : Ended → Ended
unflushed (NotRun why) = NotRun why
unflushed (Ran run) = Ran (record run { ended = unwritten run.ended })
unflushed (Drawn ended) = Drawn (undrawn ended)
