-- Defines the command `load`, as specified in docs/PROFILE.md, "Command lines", "Order of checks" and "Answers".
use Rattle.std.specs.Prelude.{◌⊎◌, ℕ, List, [], ◌∷◌, ◌++◌, codes, decimal, Option, Some, None, option_map, Result, Ok, Err}
use Rattle.serde_json.specs.Data.{Data}
use Rattle.serde_json.specs.Find.{get}
use Rattle.json_values.specs.LineView.{line_view}
use Rattle.rev_core.specs.Ancestry.{head_of}
use Rattle.doc_json.specs.Document.{Document}
use Rattle.couch_base.specs.Put.{put_answer}
use Rattle.couch_base.specs.declared.fault.Put.{Put}
use Rattle.couch_base.specs.declared.fault.Put.TheVariants.{Changed, Same}
use Rattle.repl_peer.specs.peer.Peer.{PeerValue, new_peer}
use Rattle.repl_peer.specs.peer.Writing.{after_load}
use Rattle.script_engine.specs.Serving.{Told, Answering}
use Rattle.script_databases.specs.Databases.{State, peer_at, with_peer, IsTaken, drawn_one, next_made}
use Rattle.script_databases.specs.Refusals.{told_as, base_refusal}
use Rattle.script_databases.specs.declared.refusal.Refusal.{Refusal}
use Rattle.script_databases.specs.declared.refusal.Refusal.TheVariants as why
use Rattle.rev_core.specs.Checks.{◌>>=◌}
use Rattle.command_api.specs.Checks.{needed}
use Rattle.command_api.specs.Given.{document_given}
use Rattle.command_api.specs.Members.{name_at, optional, if_only, as_uuid}
use Rattle.command_api.specs.Telling.{Refuses, Does, UnlessQuiet}
use Rattle.command_api.specs.Texts.{ended, quoted, text_of_any}
use Rattle.write_commands.specs.declared.load.Load.{Load}

-- ---- its parameters

-- The parameters of `load`: a database name, an optional UUID, and an optional document. A `load` line without a
-- document only creates the database, if the database does not exist yet.
pub record LoadAsk : Type 0 where
  pub db : List ℕ
  pub uuid : Option ℕ
  pub doc : Option Data

abbrev pub load_asked : Load → LoadAsk
load_asked ask = record { db = ask.db.now; uuid = ask.uuid; doc = option_map line_view ask.doc }

-- The parameters of a `load` line. The value of `doc` may have any type.
abbrev pub load_in : Data → Result LoadAsk Refusal
load_in d = do
  db ← needed (name_at (codes "db") d)
  uuid ← needed (optional as_uuid (codes "uuid") d)
  needed (if_only (codes "do" ∷ codes "db" ∷ codes "uuid" ∷ codes "doc" ∷ []) d
      (record { db = db; uuid = uuid; doc = get (codes "doc") d }))

-- ---- its output

abbrev pub made_line : List ℕ → List ℕ
made_line db = ended (codes "made " ++ db)

abbrev pub there_line : List ℕ → List ℕ
there_line db = ended (codes "there " ++ db)

-- In a line that `load` prints, the text with a document's id and newest revision.
abbrev pub document_part : Document → List ℕ
document_part doc = quoted doc.id ++ codes " " ++ text_of_any (head_of doc.ancestry)

abbrev pub loaded_line : List ℕ → Document → ℕ → List ℕ
loaded_line db doc seq = ended (codes "loaded " ++ db ++ codes " " ++ document_part doc ++ codes " seq " ++ decimal seq)

abbrev pub same_line : List ℕ → Document → List ℕ
same_line db doc = ended (codes "same " ++ db ++ codes " " ++ document_part doc)

abbrev pub put_line : List ℕ → Document → Put → List ℕ
put_line db doc (Changed seq) = loaded_line db doc seq
put_line db doc Same = same_line db doc

-- ---- its result

-- The result of putting a document into a database, and the state after the put.
abbrev pub put_into : State → List ℕ → PeerValue → Document → Result (List ℕ × State) Refusal
put_into s db l doc = do
  put ← told_as base_refusal (put_answer l.db doc)
  Ok (put_line db doc put, with_peer s db (after_load l doc))

-- The result of `load` for an existing database, and the state after the load.
abbrev pub load_there : State → List ℕ → PeerValue → Option Document → Result (List ℕ × State) Refusal
load_there s db l None = Ok (there_line db, s)
load_there s db l (Some doc) = put_into s db l doc

-- The result of `load` for a new database with the given UUID, and the state after the load.
abbrev pub load_new : State → List ℕ → ℕ → Option Document → Result (List ℕ × State) Refusal
load_new s db uuid None = Ok (made_line db, with_peer s db (new_peer uuid))
load_new s db uuid (Some doc) = put_into s db (new_peer uuid) doc

-- The result of `load` for a new database with the given UUID, or `UuidTaken` if another database has the UUID.
abbrev pub LoadsUntaken : State → List ℕ → ℕ → Result (Option Document) Refusal → Told → State → Type 0
LoadsUntaken old db uuid doc told new =
    IsTaken old uuid × Refuses why.UuidTaken old told new
    ⊎ (IsTaken old uuid → ⊥) × Does (doc >>= load_new old db uuid) old told new

-- The result of `load` for a new database with a generated UUID. The document of a `load` line is parsed before the
-- line takes the next generated id. If the document is valid, the line takes the next generated id, even if an
-- allocation fails later.
abbrev pub LoadsMade : State → List ℕ → Result (Option Document) Refusal → Told → State → Type 0
LoadsMade old db (Ok doc) told new =
    LoadsUntaken (drawn_one old) db (next_made old) (Ok doc) told new ⊎ Refuses why.Memory (drawn_one old) told new
LoadsMade old db (Err refusal) told new = Refuses refusal old told new

-- The result of `load`, for each case: the database exists or not, and a UUID is given or not.
abbrev pub LoadsAt : State → List ℕ → Option PeerValue → Option ℕ → Result (Option Document) Refusal → Told → State
    → Type 0
LoadsAt old db (Some l) (Some uuid) doc told new = Refuses why.DatabaseExists old told new
LoadsAt old db (Some l) None doc told new = Does (doc >>= load_there old db l) old told new
LoadsAt old db None (Some uuid) doc told new = LoadsUntaken old db uuid doc told new
LoadsAt old db None None doc told new = LoadsMade old db doc told new

abbrev pub LoadsLoud : Answering State LoadAsk
LoadsLoud old ask told new = LoadsAt old ask.db (peer_at old ask.db) ask.uuid (document_given ask.doc) told new

abbrev pub Loads : Answering State LoadAsk
Loads old ask told new = UnlessQuiet LoadsLoud old ask told new

-- ---- loading without a UUID

pub record NamedLoad : Type 0 where
  pub db : List ℕ
  pub doc : Option Document

abbrev pub LoadsNamed : Answering State NamedLoad
LoadsNamed old ask told new = LoadsAt old ask.db (peer_at old ask.db) None (Ok ask.doc) told new

-- ---- loading with a UUID

pub record NewLoad : Type 0 where
  pub db : List ℕ
  pub uuid : ℕ
  pub doc : Option Document

abbrev pub LoadsNew : Answering State NewLoad
LoadsNew old ask told new = Does (load_new old ask.db ask.uuid ask.doc) old told new
