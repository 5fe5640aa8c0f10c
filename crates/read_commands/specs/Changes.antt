-- Defines the command `changes`, as specified in docs/PROFILE.md, "Command lines" and "Answers".
use Rattle.std.specs.Prelude.{ℕ, List, [], ◌∷◌, ◌++◌, codes, decimal, unwrap_or, Result, Ok}
use Rattle.std.specs.List.{flat_map}
use Rattle.serde_json.specs.Data.{Data}
use Rattle.couch_base.specs.Feed.{RowValue, feed}
use Rattle.script_engine.specs.Serving.{Answering}
use Rattle.script_databases.specs.Databases.{State}
use Rattle.script_databases.specs.declared.refusal.Refusal.{Refusal}
use Rattle.rev_core.specs.Checks.{◌>>=◌}
use Rattle.command_api.specs.Checks.{needed}
use Rattle.command_api.specs.Members.{name_at, optional, if_only, as_whole}
use Rattle.command_api.specs.Telling.{database_of, Reads}
use Rattle.command_api.specs.Texts.{ended, last_line, quoted, texts_of_revs}
use Rattle.read_commands.specs.declared.changes.Changes.{Changes}

-- ---- its parameters

-- The parameters of `changes`, which prints the changes of a database after a sequence.
pub record ChangesAsk : Type 0 where
  pub db : List ℕ
  pub since : ℕ

abbrev pub changes_asked : Changes → ChangesAsk
changes_asked ask = record { db = ask.db.now; since = ask.since }

abbrev pub changes_in : Data → Result ChangesAsk Refusal
changes_in d = do
  db ← needed (name_at (codes "db") d)
  since ← needed (optional as_whole (codes "since") d)
  needed (if_only (codes "do" ∷ codes "db" ∷ codes "since" ∷ []) d (record { db = db; since = unwrap_or since 0 }))

-- ---- its output

-- The line that `changes` prints for a document: the sequence of the document's latest change, and the document's
-- leaves.
abbrev pub row_line : RowValue → List ℕ
row_line r = ended (codes "change " ++ decimal r.seq ++ codes " " ++ quoted r.id ++ codes " " ++ texts_of_revs r.leaves)

-- ---- its result

-- The result of `changes`: the feed after a sequence, and the update sequence.
abbrev pub changes_told : State → ChangesAsk → Result (List ℕ) Refusal
changes_told s ask = do
  l ← database_of s ask.db
  Ok (flat_map row_line (feed l.db ask.since l.db.update_seq) ++ last_line l.db.update_seq)

abbrev pub ListsChanges : Answering State ChangesAsk
ListsChanges old ask told new = Reads (changes_told old ask) old told new
