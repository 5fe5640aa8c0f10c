-- Defines the commands of a script, by name, as specified in docs/PROFILE.md, "Command lines".
use Rattle.std.specs.Prelude.{ℕ, List, codes, if◌then◌else◌, Option, Some, None, Result, Err}
use Rattle.std.specs.Str.{bytes_eq}
use Rattle.serde_json.specs.Data.{Data}
use Rattle.script_engine.specs.Serving.{Answering}
use Rattle.script_databases.specs.Databases.{State}
use Rattle.script_databases.specs.declared.refusal.Refusal.{Refusal}
use Rattle.script_databases.specs.declared.refusal.Refusal.TheVariants as why
use Rattle.rev_core.specs.Checks.{◌>>=◌}
use Rattle.command_api.specs.Checks.{needed, seen_as}
use Rattle.command_api.specs.Members.{text_at}
use Rattle.write_commands.specs.Load.{LoadAsk, load_in, Loads}
use Rattle.write_commands.specs.Edit.{EditAsk, edit_in, Edits}
use Rattle.read_commands.specs.Show.{ShowAsk, show_in, Shows}
use Rattle.read_commands.specs.Doc.{DocAsk, doc_in, PrintsDocument}
use Rattle.read_commands.specs.Changes.{ChangesAsk, changes_in, ListsChanges}
use Rattle.read_commands.specs.Log.{LogAsk, log_in, Logs}
use Rattle.read_commands.specs.Audit.{AuditAsk, audit_in, Audits}
use Rattle.write_commands.specs.Replicate.{ReplicateAsk, replicate_in, ReportsReplication}
use Rattle.write_commands.specs.Backup.{BackupAsk, backup_in, BacksUp}
use Rattle.write_commands.specs.Restore.{RestoreAsk, restore_in, Restores}
use Rattle.read_commands.specs.Compare.{CompareAsk, compare_in, Compares}
use Rattle.read_commands.specs.Conflicts.{ConflictsAsk, conflicts_in, ListsConflicts}
use Rattle.read_commands.specs.Docs.{DocsAsk, docs_in, PrintsDocuments}
use Rattle.read_commands.specs.Info.{InfoAsk, info_in, Informs}
use Rattle.read_commands.specs.Ledger.{LedgerAsk, ledger_in, ListsLedger}
use Rattle.write_commands.specs.Sync.{SyncAsk, sync_in, Syncs}
use Rattle.commands.specs.declared.words.CommandName.{CommandName}
use Rattle.commands.specs.declared.words.CommandName.TheVariants as word

-- The request of a line: a command with its parameters.
pub data Asked : Type 0 where
  load : LoadAsk → Asked
  edit : EditAsk → Asked
  show : ShowAsk → Asked
  doc : DocAsk → Asked
  changes : ChangesAsk → Asked
  log : LogAsk → Asked
  audit : AuditAsk → Asked
  replicate : ReplicateAsk → Asked
  backup : BackupAsk → Asked
  restore : RestoreAsk → Asked
  compare : CompareAsk → Asked
  conflicts : ConflictsAsk → Asked
  docs : DocsAsk → Asked
  info : InfoAsk → Asked
  ledger : LedgerAsk → Asked
  sync : SyncAsk → Asked

-- The line's request or the line's error, given the line's command and JSON object.
abbrev pub asked_as : CommandName → Data → Result Asked Refusal
asked_as word.Load d = seen_as load (load_in d)
asked_as word.Edit d = seen_as edit (edit_in d)
asked_as word.Show d = seen_as show (show_in d)
asked_as word.Doc d = seen_as doc (doc_in d)
asked_as word.Changes d = seen_as changes (changes_in d)
asked_as word.Log d = seen_as log (log_in d)
asked_as word.Audit d = seen_as audit (audit_in d)
asked_as word.Replicate d = seen_as replicate (replicate_in d)
asked_as word.Backup d = seen_as backup (backup_in d)
asked_as word.Restore d = seen_as restore (restore_in d)
asked_as word.Compare d = seen_as compare (compare_in d)
asked_as word.Conflicts d = seen_as conflicts (conflicts_in d)
asked_as word.Docs d = seen_as docs (docs_in d)
asked_as word.Info d = seen_as info (info_in d)
asked_as word.Ledger d = seen_as ledger (ledger_in d)
asked_as word.Sync d = seen_as sync (sync_in d)

-- The request of a line, given the line's command and JSON object. If the command is not known, the result is
-- `BadCommand`.
abbrev pub asked_if : Option CommandName → Data → Result Asked Refusal
asked_if (Some w) d = asked_as w d
asked_if None d = Err why.BadCommand

-- The request of a line, given the name of the line's command and the line's JSON object, or the error of the line.
abbrev pub asked_by : List ℕ → Data → Result Asked Refusal
asked_by name d =
    if bytes_eq name (codes "load") then asked_as word.Load d
    else (if bytes_eq name (codes "edit") then asked_as word.Edit d
    else (if bytes_eq name (codes "show") then asked_as word.Show d
    else (if bytes_eq name (codes "doc") then asked_as word.Doc d
    else (if bytes_eq name (codes "changes") then asked_as word.Changes d
    else (if bytes_eq name (codes "log") then asked_as word.Log d
    else (if bytes_eq name (codes "audit") then asked_as word.Audit d
    else (if bytes_eq name (codes "replicate") then asked_as word.Replicate d
    else (if bytes_eq name (codes "backup") then asked_as word.Backup d
    else (if bytes_eq name (codes "restore") then asked_as word.Restore d
    else (if bytes_eq name (codes "compare") then asked_as word.Compare d
    else (if bytes_eq name (codes "conflicts") then asked_as word.Conflicts d
    else (if bytes_eq name (codes "docs") then asked_as word.Docs d
    else (if bytes_eq name (codes "info") then asked_as word.Info d
    else (if bytes_eq name (codes "ledger") then asked_as word.Ledger d
    else (if bytes_eq name (codes "sync") then asked_as word.Sync d
    else Err why.BadCommand)))))))))))))))

-- The request of a line, given the line's JSON object, or the error of the line. The member `do` of the object names
-- the command.
abbrev pub asked_in : Data → Result Asked Refusal
asked_in d = do
  name ← needed (text_at (codes "do") d)
  asked_by name d

-- If a request runs in the state `old`, `told` is one of its possible results, and `new` is the state after this
-- result.
abbrev pub WordsAnswer : Answering State Asked
WordsAnswer old (load ask) told new = Loads old ask told new
WordsAnswer old (edit ask) told new = Edits old ask told new
WordsAnswer old (show ask) told new = Shows old ask told new
WordsAnswer old (doc ask) told new = PrintsDocument old ask told new
WordsAnswer old (changes ask) told new = ListsChanges old ask told new
WordsAnswer old (log ask) told new = Logs old ask told new
WordsAnswer old (audit ask) told new = Audits old ask told new
WordsAnswer old (replicate ask) told new = ReportsReplication old ask told new
WordsAnswer old (backup ask) told new = BacksUp old ask told new
WordsAnswer old (restore ask) told new = Restores old ask told new
WordsAnswer old (compare ask) told new = Compares old ask told new
WordsAnswer old (conflicts ask) told new = ListsConflicts old ask told new
WordsAnswer old (docs ask) told new = PrintsDocuments old ask told new
WordsAnswer old (info ask) told new = Informs old ask told new
WordsAnswer old (ledger ask) told new = ListsLedger old ask told new
WordsAnswer old (sync ask) told new = Syncs old ask told new
