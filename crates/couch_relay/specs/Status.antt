-- Defines the exit status of the program, as specified in docs/PROFILE.md, "Options of `couch_relay`".
use Rattle.std.specs.Prelude.{◌==◌, ℕ, if◌then◌else◌, Result, Ok, Err}
use Rattle.clap.specs.Words.{kind_of}
use Rattle.cli_common.specs.Status.{kind_status}
use Rattle.script_engine.specs.declared.fault.ScriptFault.{ScriptFault}
use Rattle.couch_relay.specs.declared.options.NoOptions.TheVariants.{Words, NoNumber, Memory}
use Rattle.couch_relay.specs.declared.run.Ended.{Ended}
use Rattle.couch_relay.specs.declared.run.Ended.TheVariants as end

-- The exit status if the command line starts no run: 0 if `cli_common` returns the status 0, otherwise 3.
abbrev pub usage_status : ℕ → ℕ
usage_status status = if status == 0 then 0 else 3

-- The exit status of a run, or 3 if a fault stopped the run.
abbrev pub exit_status : Result ℕ ScriptFault → ℕ
exit_status (Ok status) = status
exit_status (Err fault) = 3

-- The exit status of the program. If the arguments start no run, the exit status is 0 for a request for help or the
-- version, and otherwise 3.
abbrev pub ended_status : Ended → ℕ
ended_status (end.NotRun (Words error)) = usage_status (kind_status (kind_of error))
ended_status (end.NotRun NoNumber) = 3
ended_status (end.NotRun Memory) = 3
ended_status (end.Ran ran) = exit_status ran
