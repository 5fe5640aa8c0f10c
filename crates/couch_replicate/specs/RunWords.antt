-- Defines what runs of `couch_replicate` read, write and return, as specified in docs/PROFILE.md, "Options" and
-- "Answers". A run uses a given reader and writer, or standard input and standard output.
use Rattle.std.specs.Prelude.{◌≡◌, ℕ, List, [], Bool, Option, Result, Ok, Err, OnOk}
use Rattle.std.specs.Io.KnownBytes.{Appends, Consumes}
use Rattle.script_engine.specs.Device.{Gives}
use Rattle.script_engine.specs.Script.{AnswersEnded, IsAnswered}
use Rattle.script_engine.specs.Faults.{IsSent, IsToldUntil}
use Rattle.script_engine.specs.declared.fault.ScriptFault.{ScriptFault}
use Rattle.script_engine.specs.declared.fault.ScriptFault.TheVariants.{Read}
use Rattle.script_databases.specs.Databases.{Program, State, no_databases}
use Rattle.script_databases.specs.Stored.{program_of}
use Rattle.commands.specs.Trust.{TrustedLines}
use Rattle.commands.specs.Streams.{Prints}
use Rattle.couch_replicate.specs.Options.{Says, Refuses}
use Rattle.couch_replicate.specs.declared.options.Options.{Options}
use Rattle.couch_replicate.specs.declared.run.Ended.{Ended}
use Rattle.couch_replicate.specs.declared.run.Ended.TheVariants.{NotRun, Ran}

-- States what the program writes when it runs a script with the settings of `program`. If a run fails, the program's
-- output is a prefix of the script's complete output. If the error is `Read` or `Memory`, the program's output does not
-- end within the output of a line. If the error is `Read`, the program's output is the output of all lines that were
-- read. The predicate `given` is true of the script's bytes, and the predicate `taken` is true of the bytes that were
-- read. The writer had received the bytes `held` when the run began, and the bytes `held'` when the run ended.
abbrev pub Answered : Program → (List ℕ → Type 0) → (List ℕ → Type 0) → Option (List ℕ) → Option (List ℕ)
    → Result Bool ScriptFault → Type 0
Answered program given taken held held' (Ok clean) =
    (input : List ℕ) × (text : List ℕ) × (state : State) × given input × Appends held held' text
    × IsAnswered TrustedLines (no_databases program) input clean text state
Answered program given taken held held' (Err fault) =
    ((input : List ℕ) × (text : List ℕ) × given input × Appends held held' text
    × IsToldUntil fault TrustedLines (no_databases program) input text)
    × (fault ≡ Read → (input : List ℕ) × (text : List ℕ) × (state : State) × taken input
    × Appends held held' text × AnswersEnded TrustedLines (no_databases program) input text state)

-- States what a run of `couch_replicate` with the command line `words` reads, writes and returns. If the command line
-- gives no settings, no byte is read or written. If the command line gives settings, a script is run with these
-- settings. The writer has passed on the script's output, unless a write failed. The relation `Answered` is true for
-- two scripts: all bytes that remained in the reader before the run, and the bytes that the reads returned. If a run of
-- a script succeeded, the script's input has ended. The arguments `left` and `left'` of `RunsWords` are the remaining
-- bytes of the reader before and after the run. The reader had returned the bytes `took` when the run began, and the
-- bytes `took'` when the run ended. The argument `at_end` of `RunsWords` says whether the reads reached the input's
-- end. The writer had received the bytes `held` when the run began, and the bytes `held'` when the run ended. The
-- argument `sent` has the bytes that the writer passed on.
abbrev pub RunsWords : List (List ℕ) → Option (List ℕ) → Option (List ℕ) → Option (List ℕ) → Option (List ℕ) → Type 0
    → Option (List ℕ) → Option (List ℕ) → Option (List ℕ) → Ended → Type 0
RunsWords words left left' took took' at_end held held' sent (NotRun why) =
    Refuses words why × (left' ≡ left) × (took' ≡ took) × (held' ≡ held)
RunsWords words left left' took took' at_end held held' sent (Ran ended) =
    (o : Options) × Says words o
    × Answered (program_of o.settings) (λ input. Gives left input) (λ input. Consumes left left' input) held held' ended
    × Answered (program_of o.settings) (λ input. Appends took took' input) (λ input. Appends took took' input) held held'
    ended × OnOk ended at_end × IsSent ended held' sent

-- States what `couch_replicate` reads from standard input and writes to standard output. The arguments of
-- `RunsStandard` are the command line, the bytes read, whether the reads reached the input's end, and the bytes that
-- standard output accepted.
abbrev pub RunsStandard : List (List ℕ) → List ℕ → Type 0 → List ℕ → Ended → Type 0
RunsStandard words input at_end text (NotRun why) = Refuses words why × (input ≡ []) × (text ≡ [])
RunsStandard words input at_end text (Ran ended) =
    (o : Options) × Says words o × Prints (program_of o.settings) input at_end text ended
