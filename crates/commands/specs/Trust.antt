-- Defines the guarantees for the output of every script, as specified in docs/PROFILE.md, "Tied databases".
use Rattle.std.specs.Prelude.{ℕ, List, Result, IfOk}
use Rattle.script_engine.specs.Serving.{Told, Answering}
use Rattle.script_databases.specs.Consistent.{IsConsistent}
use Rattle.script_databases.specs.Databases.{State}
use Rattle.script_databases.specs.declared.refusal.Refusal.{Refusal}
use Rattle.commands.specs.Script.{Asks, AnswersAsked}
use Rattle.commands.specs.words.{Asked, audit, replicate, restore, sync}
use Rattle.read_commands.specs.Audit.{IsClean}
use Rattle.write_commands.specs.Replicate.{IsCovered}
use Rattle.write_commands.specs.Restore.{IsRestored}
use Rattle.write_commands.specs.Sync.{IsMet}

-- The guarantees for the outputs of the commands `audit`, `replicate`, `sync` and `restore`, and for the databases
-- before (`old`) and after (`new`) the command.
abbrev pub IsTrusted : Asked → Told → State → State → Type 0
IsTrusted (audit ask) told old new = IsClean told
IsTrusted (replicate ask) told old new = IsCovered new ask told
IsTrusted (sync ask) told old new = IsMet old new ask told
IsTrusted (restore ask) told old new = IsRestored told
IsTrusted ask told old new = Unit {0}

-- The results that a script's line may have, together with the guarantees that hold for every script. All databases of
-- a script are consistent with each other before and after a line, and the output of the line satisfies `IsTrusted`.
abbrev pub TrustedLines : Answering State (List ℕ)
TrustedLines old line told new =
    (asked : Result Asked Refusal) × Asks line asked × AnswersAsked old asked told new × IsConsistent old × IsConsistent new
    × IfOk asked (λ ask. IsTrusted ask told old new)
