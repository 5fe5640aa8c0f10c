-- Defines the state of a script, and how lines change the script's databases and backups, as specified in
-- docs/PROFILE.md, "Command lines".
use Rattle.std.specs.Prelude.{◌≡◌, ℕ, Bool, ◌&&◌, List, [], ◌∷◌, ◌++◌, Option, Some, None, option_map, Result, Ok, Err, refl}
use Rattle.std.specs.List.{find}
use Rattle.std.specs.Str.{bytes_eq}
use Rattle.std.specs.declared.cmp.Ordering.{Ordering}
use Rattle.std.specs.Ordering.{nat_cmp}
use Rattle.std.specs.Cmp.Lexicographic.{slice_cmp}
use Rattle.std.specs.Coded.{Coded, code_by, coded×, coded_ℕ, coded_bool, coded_list, coded_option}
use Rattle.std.specs.FinMap as finmap
use Rattle.std.specs.FinMap.{FinMap}
use Rattle.rev_core.specs.Rev.{RevId}
use Rattle.doc_json.specs.Document.{Document}
use Rattle.couch_base.specs.Put.{put_answer}
use Rattle.couch_base.specs.Edit.{edit_answer}
use Rattle.couch_base.specs.declared.fault.Put.{Put}
use Rattle.couch_base.specs.declared.fault.BaseFault.{BaseFault}
use Rattle.repl_peer.specs.peer.Peer.{PeerValue}
use Rattle.repl_peer.specs.peer.Backups.{BackupValue, backup_answer, restore_answer, restored, after_restore}
use Rattle.repl_peer.specs.peer.PeerCode.{coded_peer, coded_backup}
use Rattle.repl_peer.specs.peer.Writing.{after_load, after_edit}
use Rattle.script_databases.specs.MadeIds.{made_id, next_place}
use Rattle.script_databases.specs.Refusals.{told_as, base_refusal, target_refusal}
use Rattle.script_databases.specs.declared.databases.Edited.{Edited}
use Rattle.script_databases.specs.declared.databases.PutBack.{PutBack}
use Rattle.script_databases.specs.declared.refusal.Refusal.{Refusal}
use Rattle.script_databases.specs.declared.refusal.Refusal.TheVariants as why

-- The order of strings, which compares the strings byte by byte.
abbrev pub text_cmp : List ℕ → List ℕ → Ordering
text_cmp = slice_cmp nat_cmp

-- The program's settings: the id prefix that targets refuse, the seed of generated ids, and the defaults of
-- replications. The setting `quiet` says whether successful loads and edits print nothing.
pub record Program : Type 0 where
  pub deny : Option (List ℕ)
  pub seed : ℕ
  pub at : ℕ
  pub workers : ℕ
  pub batch : ℕ
  pub quiet : Bool

-- A backup, with the name of the backed-up database and the name of the backup.
pub record NamedBackupValue : Type 0 where
  pub db : List ℕ
  pub name : List ℕ
  pub backup : BackupValue

abbrev pub coded_named_backup : Coded NamedBackupValue
coded_named_backup =
    code_by (List ℕ × (List ℕ × BackupValue))
    (coded× (coded_list coded_ℕ) (coded× (coded_list coded_ℕ) coded_backup)) (λ k. (k.db, (k.name, k.backup)))
    (λ p. record { db = p.0; name = p.1.0; backup = p.1.1 }) (λ _. refl)

-- The state of a script: the settings, the number of generated ids, the backups, and the peers by name. No line of a
-- script changes the settings. The number of generated ids is counted modulo the length of the random stream.
pub record State : Type 0 where
  pub program : Program
  pub drawn : ℕ
  pub backups : List NamedBackupValue
  pub peers : FinMap text_cmp PeerValue

abbrev pub coded_state : Coded State
coded_state = code_by (Option (List ℕ) × (ℕ × (ℕ × (ℕ × (ℕ × (Bool × (ℕ × (List NamedBackupValue × FinMap text_cmp PeerValue))))))))
    (coded× (coded_option (coded_list coded_ℕ))
    (coded× coded_ℕ
    (coded× coded_ℕ
    (coded× coded_ℕ
    (coded× coded_ℕ
    (coded× coded_bool
    (coded× coded_ℕ (coded× (coded_list coded_named_backup) (finmap.code (coded_list coded_ℕ) coded_peer)))))))))
    (λ s. (
      s.program.deny,
      (s.program.seed, (s.program.at, (s.program.workers, (s.program.batch, (s.program.quiet, (s.drawn, (s.backups, s.peers))))))),
    ))
    (λ p. record {
      program = record { deny = p.0; seed = p.1.0; at = p.1.1.0; workers = p.1.1.1.0; batch = p.1.1.1.1.0; quiet = p.1.1.1.1.1.0 };
      drawn = p.1.1.1.1.1.1.0;
      backups = p.1.1.1.1.1.1.1.0;
      peers = p.1.1.1.1.1.1.1.1;
    })
    (λ _. refl)

abbrev pub no_databases : Program → State
no_databases program = record { program = program; drawn = 0; backups = []; peers = finmap.empty }

-- The id that the script generates next, if the script has the state s.
abbrev pub next_made : State → ℕ
next_made s = made_id s.program.seed s.drawn

abbrev pub drawn_one : State → State
drawn_one s = record s { drawn = next_place s.drawn }

-- The peer with the given name in state s, or `None` if no peer has this name.
abbrev pub peer_at : State → List ℕ → Option PeerValue
peer_at s name = finmap.get s.peers name

-- The state that results if peer p is stored under the given name in state s.
abbrev pub with_peer : State → List ℕ → PeerValue → State
with_peer s name p = record s { peers = finmap.insert s.peers name p }

-- In state s of a script, a database has the UUID `uuid`.
abbrev pub IsTaken : State → ℕ → Type 0
IsTaken s uuid = (name : List ℕ) × (p : PeerValue) × (peer_at s name ≡ Some p) × (p.db.uuid ≡ uuid)

-- The state that results if function f is applied to the peer with the given name, or the unchanged state if no peer
-- has this name.
abbrev pub with_changed : State → List ℕ → (PeerValue → PeerValue) → Option PeerValue → State
with_changed s name f None = s
with_changed s name f (Some p) = with_peer s name (f p)

abbrev pub changed_at : State → List ℕ → (PeerValue → PeerValue) → State
changed_at s name f = with_changed s name f (peer_at s name)

-- ---- loading a document

abbrev pub load_answer : Option PeerValue → Document → Result Put Refusal
load_answer None doc = Err why.NoDatabase
load_answer (Some l) doc = told_as base_refusal (put_answer l.db doc)

abbrev pub loaded_at : State → List ℕ → Document → State
loaded_at s name doc = changed_at s name (λ l. after_load l doc)

-- ---- editing a document

-- The result of an `edit` line: the new revision and the update sequence after the edit, or the error.
abbrev pub edited_as : PeerValue → Result RevId BaseFault → Result Edited Refusal
edited_as after (Ok rev) = Ok (record { rev = rev; seq = after.db.update_seq })
edited_as after (Err fault) = Err (base_refusal fault)

abbrev pub edited_answer : Option PeerValue → List ℕ → Option RevId → Bool → List ℕ → Result Edited Refusal
edited_answer None id parent deleted body = Err why.NoDatabase
edited_answer (Some l) id parent deleted body =
    edited_as (after_edit l id parent deleted body) (edit_answer l.db id parent deleted body)

abbrev pub edited_at : State → List ℕ → List ℕ → Option RevId → Bool → List ℕ → State
edited_at s name id parent deleted body = changed_at s name (λ l. after_edit l id parent deleted body)

-- ---- Backups of databases, as specified in docs/PROFILE.md, "Backup and restore"

abbrev pub is_named : List ℕ → List ℕ → NamedBackupValue → Bool
is_named db name k = bytes_eq k.db db && bytes_eq k.name name

-- The backup of database `db` with the given name, or `None` if no such backup exists.
abbrev pub backup_among : List NamedBackupValue → List ℕ → List ℕ → Option BackupValue
backup_among backups db name = option_map (λ k. k.backup) (find (is_named db name) backups)

abbrev pub backup_at : State → List ℕ → List ℕ → Option BackupValue
backup_at s db name = backup_among s.backups db name

-- The state s with one more backup at the end of the list of backups.
abbrev pub with_backup : State → List ℕ → List ℕ → BackupValue → State
with_backup s db name b = record s { backups = s.backups ++ record { db = db; name = name; backup = b } ∷ [] }

-- The new backup of a database, or the error that prevents the backup. To make a backup, the database must exist, and
-- the backup's name must be unused.
abbrev pub backed_of : Option PeerValue → Option BackupValue → Result BackupValue Refusal
backed_of None o = Err why.NoDatabase
backed_of (Some p) (Some b) = Err why.BackupExists
backed_of (Some p) None = told_as target_refusal (backup_answer p)

abbrev pub backed_answer : State → List ℕ → List ℕ → Result BackupValue Refusal
backed_answer s db name = backed_of (peer_at s db) (backup_at s db name)

-- The result of `back_up`: the update sequence of the backup, or the error.
abbrev pub backed_told : Result BackupValue Refusal → Result ℕ Refusal
backed_told (Ok b) = Ok b.db.update_seq
backed_told (Err refusal) = Err refusal

abbrev pub backed_by : State → List ℕ → List ℕ → Result BackupValue Refusal → State
backed_by s db name (Ok b) = with_backup s db name b
backed_by s db name (Err refusal) = s

abbrev pub backed_at : State → List ℕ → List ℕ → State
backed_at s db name = backed_by s db name (backed_answer s db name)

-- ---- restoring a database

-- The result of `put_back`: the update sequence and the life of the restored peer, or the error.
abbrev pub put_back_of : PeerValue → Result (Unit {0}) Refusal → Result PutBack Refusal
put_back_of p (Ok done) = Ok (record { seq = p.db.update_seq; life = p.db.life })
put_back_of p (Err refusal) = Err refusal

abbrev pub put_back_answer : Option PeerValue → Option BackupValue → Result PutBack Refusal
put_back_answer None o = Err why.NoDatabase
put_back_answer (Some p) None = Err why.NoBackup
put_back_answer (Some p) (Some b) = put_back_of (restored p b) (told_as target_refusal (restore_answer p b))

abbrev pub put_back_by : State → List ℕ → Option BackupValue → State
put_back_by s db None = s
put_back_by s db (Some b) = changed_at s db (λ p. after_restore p b)
