use Rattle.proof_prelude.proofs.{List, ap, ◌∙◌, string_bytes}
use Rattle.script_databases.specs.{NamedBackupValue, backup_among}
use Rattle.script_databases.proofs.{lookup-among}
use Rattle.script_databases.proofs.backups.Backups.find.Goals as goal

pub returns : goal.returns
returns c =
    let k = c.args.name.now in
    c.get.ensures.value ∙ lookup-among k c.self.inside.by_name.entries
    ∙ ap (λ (ks : List NamedBackupValue). backup_among ks (string_bytes k.db) (string_bytes k.name)) c.self.view_is
