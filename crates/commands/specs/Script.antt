-- Defines the results that a line of a script may have, as specified in docs/PROFILE.md, "Command lines" and "Answers".
-- The results of each command are defined in the command's crate, and the module `words` collects these results.
use Rattle.std.specs.Prelude.{◌≡◌, ◌⊎◌, ℕ, List, Some, Result, Err}
use Rattle.std.specs.Str.{IsUtf8}
use Rattle.serde_json.specs.Data.{object, Members}
use Rattle.serde_json.specs.Read.{read}
use Rattle.script_engine.specs.Serving.{Answering}
use Rattle.script_databases.specs.Databases.{State}
use Rattle.script_databases.specs.declared.refusal.Refusal.{Refusal}
use Rattle.script_databases.specs.declared.refusal.Refusal.TheVariants as why
use Rattle.command_api.specs.Telling.{AnswersIn}
use Rattle.commands.specs.words.{Asked, asked_in, WordsAnswer}

-- The text `line` is the JSON object with the members `ms`.
abbrev pub IsObject : List ℕ → Members → Type 0
IsObject line ms = IsUtf8 line × (read line ≡ Some (object ms))

-- The text `line` is not a JSON object.
abbrev pub IsNoObject : List ℕ → Type 0
IsNoObject line = (ms : Members) → IsObject line ms → ⊥

-- The request of a script's line, or the error if the line is not a command.
abbrev pub Asks : List ℕ → Result Asked Refusal → Type 0
Asks line asked =
    ((ms : Members) × IsObject line ms × (asked ≡ asked_in (object ms))) ⊎ (IsNoObject line × (asked ≡ Err why.BadLine))

-- The results that a parsed line may have. If the line's request is invalid, the line fails and leaves the state
-- unchanged.
abbrev pub AnswersAsked : Answering State (Result Asked Refusal)
AnswersAsked old asked told new = AnswersIn WordsAnswer old asked told new

-- The results that a line of a script may have.
abbrev pub LinesAnswer : Answering State (List ℕ)
LinesAnswer old line told new = (asked : Result Asked Refusal) × Asks line asked × AnswersAsked old asked told new
