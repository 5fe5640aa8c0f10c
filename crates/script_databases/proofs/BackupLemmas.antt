-- Backups by name, and the errors of backups and restores.
use Rattle.proof_prelude.proofs.{◌≡◌, ◌⊎◌, arith, common_steps, Result, Ok, Err, refl, ◌&&◌, List, [], ◌∷◌, ◌++◌, lookup, map-append, string_bytes, string_eq}
use Rattle.repl_peer.specs.{PeerValue, GivesUnlessMemory, BackupValue, restore_answer, restored_by, after_restore, TargetFault}
use Rattle.repl_network.proofs.{restores_in}
use Rattle.script_databases.specs.{NamedBackupValue, backup_among, copies_of}
use Rattle.std.proofs.lemmas.Cmp.{nat_list_eq_equiv}
use Rattle.script_databases.specs.declared.backups.BackupName.{BackupName}
use Rattle.repl_peer.specs.declared.fault.TargetFault.TheVariants as faults
use Rattle.script_databases.specs.declared.refusal.Refusal.TheVariants as why

-- the errors of the two calls
pub copy_refused : {A : Type 0} (fault : TargetFault) (expected : Result A TargetFault) → GivesUnlessMemory (Err fault) expected → (expected ≡ Err fault) ⊎ (fault ≡ faults.Memory)
copy_refused fault expected h = grind (arith, common_steps)

-- a restored peer has the same UUID
pub restore_keeps : (b : BackupValue) (p : PeerValue) → (after_restore p b).db.uuid ≡ p.db.uuid
restore_keeps b p = go (restore_answer p b) refl
  where
    go : (r : Result (Unit {0}) TargetFault) → restore_answer p b ≡ r → (restored_by p b r).db.uuid ≡ p.db.uuid
    go (Err fault) k = refl
    go (Ok done) k = (restores_in p b done k).uuid

abbrev copy_of : BackupName × BackupValue → NamedBackupValue
copy_of e = record { db = string_bytes e.0.db; name = string_bytes e.0.name; backup = e.1 }

-- the backup of a name
pub lookup-among : (k : BackupName) (es : List (BackupName × BackupValue)) → lookup (λ a. string_eq k.db a.db && string_eq k.name a.name) es ≡ backup_among (copies_of es) (string_bytes k.db) (string_bytes k.name)
lookup-among k [] = refl
lookup-among k (e ∷ es) = grind (arith, common_steps, lookup-among k es, nat_list_eq_equiv.symm (string_bytes k.db) (string_bytes e.0.db), nat_list_eq_equiv.symm (string_bytes k.name) (string_bytes e.0.name))

-- one more backup
pub copies_of-append : (es : List (BackupName × BackupValue)) (k : BackupName) (b : BackupValue) → copies_of (es ++ (k, b) ∷ []) ≡ copies_of es ++ record { db = string_bytes k.db; name = string_bytes k.name; backup = b } ∷ []
copies_of-append es k b = map-append copy_of es ((k, b) ∷ [])
