-- Defines the output of a program that runs a script, as specified in docs/PROFILE.md, "Answers".
use Rattle.std.specs.Prelude.{◌≡◌, ℕ, List, Bool, Result, Ok, Err}
use Rattle.script_engine.specs.Script.{AnswersEnded, IsAnswered}
use Rattle.script_engine.specs.Faults.{IsToldUntil}
use Rattle.script_engine.specs.declared.fault.ScriptFault.{ScriptFault}
use Rattle.script_engine.specs.declared.fault.ScriptFault.TheVariants.{Read}
use Rattle.script_databases.specs.Databases.{Program, State, no_databases}
use Rattle.commands.specs.Trust.{TrustedLines}

-- The input, the output and the result of a program that runs a script with the given settings. The program's reads
-- returned the bytes `input`. The statement `ended` says that the reads reached the input's end. The program's writer
-- accepted the bytes `text`. `Prints` has the script's result as its last argument: `Ok clean` if the script succeeded,
-- or `Err fault` if it failed. If a script succeeded, the script's input has ended, and the program's writer has
-- accepted the script's complete output. If a script failed, the program's writer has accepted a prefix of the script's
-- output. If the script failed with the error `Read`, the writer has accepted the output of each line whose end was
-- read. The output of the program has the guarantees of `TrustedLines`.
abbrev pub Prints : Program → List ℕ → Type 0 → List ℕ → Result Bool ScriptFault → Type 0
Prints program input ended text (Ok clean) =
    ended × (state : State) × IsAnswered TrustedLines (no_databases program) input clean text state
Prints program input ended text (Err fault) =
    IsToldUntil fault TrustedLines (no_databases program) input text
    × (fault ≡ Read → (state : State) × AnswersEnded TrustedLines (no_databases program) input text state)
