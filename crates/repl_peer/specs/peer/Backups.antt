-- This file defines backups of peers, and the state of a peer after a backup is restored, as specified in
-- docs/PROFILE.md, "Backup and restore".
use Rattle.std.specs.Prelude.{ℕ, ◌+◌, ◌==◌, max, Bool, true, false, nat_lt, List, [], ◌∷◌, Result, Ok, Err, if◌then◌else◌}
use Rattle.couch_base.specs.Lists.{Among}
use Rattle.couch_base.specs.Database.{DatabaseValue, in_life, most}
use Rattle.repl_log.specs.declared.replication.RepId.{RepId}
use Rattle.repl_log.specs.Entry.{EntryValue}
use Rattle.repl_peer.specs.peer.Peer.{PeerValue, SessionValue, WrittenValue}
use Rattle.repl_peer.specs.peer.Stands.{StandsIn}
use Rattle.repl_peer.specs.peer.Origins.{HasOrigins}
use Rattle.repl_peer.specs.declared.fault.TargetFault.{TargetFault}
use Rattle.repl_peer.specs.declared.fault.TargetFault.TheVariants as faults

-- A backup: a copy of a peer's database, local writes and outgoing logs.
pub record BackupValue : Type 0 where
  pub db : DatabaseValue
  pub locals : List WrittenValue
  pub outgoing : List (RepId × List EntryValue)

-- The peer with the database, local writes and outgoing logs of backup b, and without incoming sessions.
abbrev pub peer_of : BackupValue → PeerValue
peer_of b = record { db = b.db; locals = b.locals; sessions = []; outgoing = b.outgoing }

-- The invariant of a backup. Each revision of a backup comes from a local write. If the generations of a local write
-- fall by one per revision, consecutive revisions are child and parent in the document's tree (`StandsIn`).
pub record IsBackup (b : BackupValue) : Type 0 where
  pub origins : HasOrigins (peer_of b)
  pub locals : (a : WrittenValue) → Among a b.locals → StandsIn b.db a

-- Whether a peer has been a replication target, which means that the peer has an incoming session.
abbrev pub is_target : List SessionValue → Bool
is_target [] = false
is_target (s ∷ sessions) = true

-- ---- making a backup

abbrev pub copy_of : PeerValue → BackupValue
copy_of p = record { db = p.db; locals = p.locals; outgoing = p.outgoing }

abbrev pub backup_answer : PeerValue → Result BackupValue TargetFault
backup_answer p = if is_target p.sessions then Err faults.IsTarget else Ok (copy_of p)

-- ---- restoring a backup

-- The life of peer p's database or the life of backup b's database, whichever is greater.
abbrev pub greater_life : PeerValue → BackupValue → ℕ
greater_life p b = max p.db.life b.db.life

-- The result of restoring backup b into peer p, if no allocation fails.
abbrev pub restore_answer : PeerValue → BackupValue → Result (Unit {0}) TargetFault
restore_answer p b =
    if is_target p.sessions then Err faults.IsTarget
    else (if b.db.uuid == p.db.uuid
    then (if nat_lt (greater_life p b) most then Ok tt else Err faults.LifeFull)
    else Err faults.ForeignBackup)

-- Peer p after restoring backup b. The restored peer has the database, local writes and outgoing logs of backup b. The
-- life of a database is a number that each restore raises. The restored database's life is one more than the greater of
-- the lives of peer p's database and backup b's database.
abbrev pub restored : PeerValue → BackupValue → PeerValue
restored p b =
    record p { db = in_life b.db (greater_life p b + 1); locals = b.locals; outgoing = b.outgoing }

abbrev pub restored_by : PeerValue → BackupValue → Result (Unit {0}) TargetFault → PeerValue
restored_by p b (Ok done) = restored p b
restored_by p b (Err fault) = p

abbrev pub after_restore : PeerValue → BackupValue → PeerValue
after_restore p b = restored_by p b (restore_answer p b)
