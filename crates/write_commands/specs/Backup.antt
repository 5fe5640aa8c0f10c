-- Defines the command `backup`, as specified in docs/PROFILE.md, "Command lines", "Order of checks" and "Answers".
use Rattle.std.specs.Prelude.{ℕ, List, [], ◌∷◌, ◌++◌, codes, decimal, Result, Ok}
use Rattle.serde_json.specs.Data.{Data}
use Rattle.script_engine.specs.Serving.{Answering}
use Rattle.script_databases.specs.Databases.{State, backed_answer, with_backup}
use Rattle.script_databases.specs.declared.refusal.Refusal.{Refusal}
use Rattle.rev_core.specs.Checks.{◌>>=◌}
use Rattle.command_api.specs.Checks.{needed}
use Rattle.command_api.specs.Members.{name_at, if_only}
use Rattle.command_api.specs.Telling.{Does}
use Rattle.command_api.specs.Texts.{ended}
use Rattle.write_commands.specs.declared.backup.Backup.{Backup}

-- ---- its parameters

-- The parameters of `backup`, which saves a copy of a database under a name.
pub record BackupAsk : Type 0 where
  pub db : List ℕ
  pub name : List ℕ

abbrev pub backup_asked : Backup → BackupAsk
backup_asked ask = record { db = ask.db.now; name = ask.name.now }

abbrev pub backup_in : Data → Result BackupAsk Refusal
backup_in d = do
  db ← needed (name_at (codes "db") d)
  name ← needed (name_at (codes "name") d)
  needed (if_only (codes "do" ∷ codes "db" ∷ codes "name" ∷ []) d (record { db = db; name = name }))

-- ---- its output

-- The output of `backup`, with the update sequence of the backup.
abbrev pub backed_line : List ℕ → List ℕ → ℕ → List ℕ
backed_line db name seq = ended (codes "backed " ++ db ++ codes " " ++ name ++ codes " at " ++ decimal seq)

-- ---- its result

-- The result of `backup`, and the state with the new backup.
abbrev pub backup_done : State → BackupAsk → Result (List ℕ × State) Refusal
backup_done s ask = do
  copy ← backed_answer s ask.db ask.name
  Ok (backed_line ask.db ask.name copy.db.update_seq, with_backup s ask.db ask.name copy)

abbrev pub BacksUp : Answering State BackupAsk
BacksUp old ask told new = Does (backup_done old ask) old told new
