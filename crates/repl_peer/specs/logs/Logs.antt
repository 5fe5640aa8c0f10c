-- Defines the logs of a peer, as specified in docs/PROFILE.md, "Replication ids and logs".
use Rattle.std.specs.Prelude.{◌==◌, List, map, filter, Result, Ok, Err, if◌then◌else◌}
use Rattle.repl_log.specs.declared.replication.RepId.{RepId}
use Rattle.repl_log.specs.declared.fault.LogFault.{LogFault}
use Rattle.repl_log.specs.declared.fault.LogFault.TheVariants as log_faults
use Rattle.repl_log.specs.Entry.{EntryValue}
use Rattle.repl_log.specs.RepId.{same_rep}
use Rattle.repl_log.specs.Logs.{log_in, logs_with, put_answer_in}
use Rattle.repl_peer.specs.peer.Peer.{PeerValue, SessionValue, entry_of}
use Rattle.repl_peer.specs.declared.fault.TargetFault.{TargetFault}
use Rattle.repl_peer.specs.declared.fault.TargetFault.TheVariants as faults

-- ---- incoming

-- The log entries of a replication's sessions, newest first.
abbrev pub log_of : List SessionValue → RepId → List EntryValue
log_of sessions rep = map entry_of (filter (λ s. same_rep s.rep rep) sessions)

abbrev pub target_log : PeerValue → RepId → List EntryValue
target_log p rep = log_of p.sessions rep

-- ---- outgoing

abbrev pub source_log : PeerValue → RepId → List EntryValue
source_log p rep = log_in p.outgoing rep

-- The peer's error that corresponds to an error of a replication log.
abbrev pub refused_by_log : LogFault → TargetFault
refused_by_log (log_faults.Older stored) = faults.Older stored
refused_by_log log_faults.Memory = faults.Memory
refused_by_log fault = faults.Older 0

abbrev pub as_log_answers : Result (Unit {0}) LogFault → Result (Unit {0}) TargetFault
as_log_answers (Ok done) = Ok done
as_log_answers (Err fault) = Err (refused_by_log fault)

-- The result of storing an entry in the source's log, if no allocation fails. The entry's life must be the current life
-- of the source's database, a number that changes when the database is restored. If the log has an entry of the same
-- session, the new entry's recorded sequence must be at least the stored entry's.
abbrev pub put_entry_answer : PeerValue → RepId → EntryValue → Result (Unit {0}) TargetFault
put_entry_answer p rep e =
    if e.life == p.db.life then as_log_answers (put_answer_in p.outgoing rep e) else Err (faults.OtherLife p.db.life)

-- The peer after storing entry e in the source's log, or the unchanged peer if the result is an error.
abbrev pub put_by : PeerValue → RepId → EntryValue → Result (Unit {0}) TargetFault → PeerValue
put_by p rep e (Ok done) = record p { outgoing = logs_with p.outgoing rep e }
put_by p rep e (Err fault) = p

abbrev pub after_put_entry : PeerValue → RepId → EntryValue → PeerValue
after_put_entry p rep e = put_by p rep e (put_entry_answer p rep e)
