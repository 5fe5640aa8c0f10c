use Rattle.proof_prelude.proofs.{◌∷◌, [], ◌++◌, List, ap, ◌∙◌, string_bytes, string_eq, ◌&&◌}
use Rattle.indexmap.proofs.CallerLemmas.{insert_entry-new}
use Rattle.script_databases.specs.{NamedBackupValue, backup_among, copies_of}
use Rattle.script_databases.specs.declared.backups.BackupName.{BackupName}
use Rattle.script_databases.proofs.{copies_of-append, lookup-among}
use Rattle.script_databases.proofs.backups.Backups.add.Goals as goal

pub returns-clause-ok : goal.returns-clause-ok
returns-clause-ok c =
    let k = c.args.name in
    let es = c.self.inside.by_name.entries in
    let absent = lookup-among k es ∙ ap (λ (ks : List NamedBackupValue). backup_among ks (string_bytes k.db) (string_bytes k.name)) c.self.view_is ∙ c.requires.absent in
    ap copies_of (c.in_ok-insert.ensures.entries ∙ insert_entry-new (λ (a b : BackupName). string_eq a.db b.db && string_eq a.name b.name) c.self.inside.by_name k c.args.backup absent)
    ∙ copies_of-append es k c.args.backup
    ∙ ap (λ (ks : List NamedBackupValue). ks ++ record { db = string_bytes k.db; name = string_bytes k.name; backup = c.args.backup } ∷ []) c.self.view_is
