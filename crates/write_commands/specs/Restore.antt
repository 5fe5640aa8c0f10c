-- Defines the command `restore`, as specified in docs/PROFILE.md, "Command lines", "Order of checks" and "Answers".
use Rattle.std.specs.Prelude.{◌≡◌, ℕ, List, [], ◌∷◌, ◌++◌, codes, decimal, Result, Ok, Err}
use Rattle.serde_json.specs.Data.{Data}
use Rattle.script_engine.specs.Serving.{Told, Answering}
use Rattle.script_databases.specs.Databases.{State, peer_at, backup_at, put_back_answer, put_back_by}
use Rattle.script_databases.specs.Refusals.{name_of}
use Rattle.script_databases.specs.declared.databases.PutBack.{PutBack}
use Rattle.script_databases.specs.declared.refusal.Refusal.{Refusal}
use Rattle.rev_core.specs.Checks.{◌>>=◌}
use Rattle.command_api.specs.Checks.{needed}
use Rattle.command_api.specs.Members.{name_at, if_only}
use Rattle.command_api.specs.Telling.{Does}
use Rattle.command_api.specs.Texts.{ended}
use Rattle.write_commands.specs.Failing.{FailsRestoring}
use Rattle.write_commands.specs.declared.restore.Restore.{Restore}

-- ---- its parameters

-- The parameters of `restore`, which replaces a database by the database's backup of a given name.
pub record RestoreAsk : Type 0 where
  pub db : List ℕ
  pub name : List ℕ

abbrev pub restore_asked : Restore → RestoreAsk
restore_asked ask = record { db = ask.db.now; name = ask.name.now }

abbrev pub restore_in : Data → Result RestoreAsk Refusal
restore_in d = do
  db ← needed (name_at (codes "db") d)
  name ← needed (name_at (codes "name") d)
  needed (if_only (codes "do" ∷ codes "db" ∷ codes "name" ∷ []) d (record { db = db; name = name }))

-- ---- its output

-- The end of the line that `restore` prints: the restored database's update sequence and the database's life (a number
-- that each restore raises).
abbrev pub left_part : PutBack → List ℕ
left_part back = codes " at " ++ decimal back.seq ++ codes " life " ++ decimal back.life

abbrev pub restored_line : List ℕ → List ℕ → PutBack → List ℕ
restored_line db name back = ended (codes "restored " ++ db ++ codes " " ++ name ++ left_part back)

-- ---- its result

abbrev pub restore_done : State → RestoreAsk → Result (List ℕ × State) Refusal
restore_done s ask = do
  back ← put_back_answer (peer_at s ask.db) (backup_at s ask.db ask.name)
  Ok (restored_line ask.db ask.name back, put_back_by s ask.db (backup_at s ask.db ask.name))

abbrev pub Restores : Answering State RestoreAsk
Restores old ask told new = Does (restore_done old ask) old told new

-- ---- the guarantee of `restore`, as specified in docs/PROFILE.md, "Tied databases"

-- A `restore` line either succeeds, or fails with an error that `FailsRestoring` lists.
abbrev pub IsRestored : Told → Type 0
IsRestored (Ok text) = Unit {0}
IsRestored (Err name) = (refusal : Refusal) × (name ≡ name_of refusal) × FailsRestoring refusal
