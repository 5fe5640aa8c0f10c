-- Defines the invariants of a stored peer and of a stored backup, which also bound the number of local writes.
use Rattle.std.specs.Prelude.{◌≤◌, Bool, List, length}
use Rattle.doc_json.specs.Document.{Document}
use Rattle.couch_base.specs.Database.{DatabaseValue}
use Rattle.repl_peer.specs.peer.Peer.{PeerValue, WrittenValue}
use Rattle.repl_peer.specs.peer.Law.{Lawful}
use Rattle.repl_peer.specs.peer.Backups.{BackupValue, IsBackup}

-- The number of local writes is at most the database's update sequence. Each local write changes the database, so each
-- local write takes a sequence.
abbrev pub AreCounted : DatabaseValue → List WrittenValue → Type 0
AreCounted db locals = length locals ≤ db.update_seq

-- The invariant of a stored peer.
pub record IsStoredPeer (refuses : Document → Bool) (p : PeerValue) : Type 0 where
  pub lawful : Lawful refuses p
  pub open lawful use *
  pub counted : AreCounted p.db p.locals

-- The invariant of a stored backup.
pub record IsStoredBackup (b : BackupValue) : Type 0 where
  pub backup : IsBackup b
  pub open backup use *
  pub counted : AreCounted b.db b.locals
