-- Defines the command `info`, as specified in docs/PROFILE.md, "Command lines" and "Answers".
use Rattle.std.specs.Prelude.{ℕ, List, [], ◌∷◌, ◌++◌, codes, decimal, length, Result, Ok}
use Rattle.serde_json.specs.Data.{Data}
use Rattle.couch_base.specs.Database.{DatabaseValue}
use Rattle.repl_log.specs.Text.{id_digits}
use Rattle.repl_peer.specs.peer.Peer.{PeerValue}
use Rattle.repl_inspect.specs.Censuses.{census_of, trees}
use Rattle.repl_inspect.specs.declared.census.Census.{Census}
use Rattle.script_engine.specs.Serving.{Answering}
use Rattle.script_databases.specs.Databases.{State}
use Rattle.script_databases.specs.declared.refusal.Refusal.{Refusal}
use Rattle.rev_core.specs.Checks.{◌>>=◌}
use Rattle.command_api.specs.Checks.{needed}
use Rattle.command_api.specs.Members.{name_at, if_only}
use Rattle.command_api.specs.Telling.{database_of, Reads}
use Rattle.command_api.specs.Texts.{ended}
use Rattle.read_commands.specs.declared.info.Info.{Info}

-- ---- its parameters

-- The parameters of `info`, which prints the identity and the counts of a database.
pub record InfoAsk : Type 0 where
  pub db : List ℕ

abbrev pub info_asked : Info → InfoAsk
info_asked ask = record { db = ask.db.now }

abbrev pub info_in : Data → Result InfoAsk Refusal
info_in d = do
  db ← needed (name_at (codes "db") d)
  needed (if_only (codes "do" ∷ codes "db" ∷ []) d (record { db = db }))

-- ---- its output

-- The part of the output of `info` that gives a database's name, UUID, update sequence and life (the number that each
-- restore of the database raises).
abbrev pub identity_part : List ℕ → DatabaseValue → List ℕ
identity_part name db =
    codes "info " ++ name ++ codes " uuid " ++ id_digits db.uuid ++ codes " seq " ++ decimal db.update_seq ++ codes " life " ++ decimal db.life

abbrev pub documents_part : Census → List ℕ
documents_part c = codes " documents " ++ decimal c.documents ++ codes " deleted " ++ decimal c.deleted

abbrev pub leaves_part : Census → List ℕ
leaves_part c =
    codes " leaves " ++ decimal c.leaves ++ codes " conflicts " ++ decimal c.conflicts ++ codes " revisions "
    ++ decimal c.revisions

abbrev pub census_part : Census → List ℕ
census_part c = documents_part c ++ leaves_part c

abbrev pub sessions_part : ℕ → List ℕ
sessions_part count = ended (codes " sessions " ++ decimal count)

abbrev pub info_text : List ℕ → PeerValue → List ℕ
info_text name l = identity_part name l.db ++ (census_part (census_of (trees l.db)) ++ sessions_part (length l.sessions))

-- ---- its result

abbrev pub info_told : State → InfoAsk → Result (List ℕ) Refusal
info_told s ask = do
  l ← database_of s ask.db
  Ok (info_text ask.db l)

abbrev pub Informs : Answering State InfoAsk
Informs old ask told new = Reads (info_told old ask) old told new
