-- Storing an entry changes only the outgoing logs.
use Rattle.proof_prelude.proofs.{Bool, List, Result, Ok, Err, refl}
use Rattle.doc_json.specs.Document.{Document}
use Rattle.couch_base.specs.{IsLater-same}
use Rattle.repl_log.specs.declared.replication.RepId.{RepId}
use Rattle.repl_log.specs.{EntryValue}
use Rattle.repl_peer.specs.{PeerValue, Lawful, LawfulSessions, IsLaterPeer, HasOrigins, put_by, put_entry_answer, after_put_entry, TargetFault}
use Rattle.repl_peer.proofs.lemmas.peer.LaterPeers.{Keeps-same, IsLaterPeer-same, lawful-later}
use Rattle.repl_peer.proofs.lemmas.peer.CallsKeepOrigins.{stands_from, has_from, stands_same}

-- ---- other outgoing logs

pub logs_later : (p : PeerValue) (logs : List (RepId × List EntryValue)) → IsLaterPeer p (record p { outgoing = logs })
logs_later p logs = record { db = IsLater-same p.db; locals = λ n x e. e; sessions = λ s m. (s, m, Keeps-same s) }

pub logs_law : (refuses : Document → Bool) (p : PeerValue) (logs : List (RepId × List EntryValue)) → LawfulSessions refuses p → LawfulSessions refuses (record p { outgoing = logs })
logs_law refuses p logs l = record {
  sessions = λ s m. lawful-later refuses p (record p { outgoing = logs }) s (logs_later p logs) (l.sessions s m);
  based = l.based;
  distinct = l.distinct;
}

pub logs_origins : (p : PeerValue) (logs : List (RepId × List EntryValue)) → HasOrigins p → HasOrigins (record p { outgoing = logs })
logs_origins p logs h = has_from (record p { outgoing = logs }) (stands_same p (record p { outgoing = logs }) (logs_later p logs) refl (stands_from p h))

pub Lawful-logs : (refuses : Document → Bool) (p : PeerValue) (logs : List (RepId × List EntryValue)) → Lawful refuses p → Lawful refuses (record p { outgoing = logs })
Lawful-logs refuses p logs h = record { sessions = logs_law refuses p logs h.sessions; origins = logs_origins p logs h.origins; locals = h.locals }

-- ---- storing an entry

put_later : (p : PeerValue) (rep : RepId) (e : EntryValue) (r : Result (Unit {0}) TargetFault) → IsLaterPeer p (put_by p rep e r)
put_later p rep e (Ok done) = logs_later p _
put_later p rep e (Err fault) = IsLaterPeer-same p

pub put_entry_later : (p : PeerValue) (rep : RepId) (e : EntryValue) → IsLaterPeer p (after_put_entry p rep e)
put_entry_later p rep e = put_later p rep e (put_entry_answer p rep e)
