-- Defines peers and sessions, as specified in docs/PROFILE.md, "Sessions of a peer".
--
-- A peer is a database with the state that replication needs. A target has a session for each replication into the
-- target. A session has the windows of the source's changes feed, and which of these windows are done. For each received
-- document, a session has an arrival if the target stored the document, or a ledger row if the target refused the
-- document. The target's trees have the revisions of all arrivals. A source has a log for each replication from the
-- source, with the sequence that the target recorded in each session. The common checkpoint of the next replication is
-- read from the logs of both sides. A peer also has its local writes, so that each revision of a tree has an origin.
-- Local writes and arrivals exist for contracts only. At run time, a peer stores only their numbers.
use Rattle.std.specs.Prelude.{ℕ, ◌==◌, Bool, nat_le, if◌then◌else◌, List, [], map, Option, Result, Ok, Err}
use Rattle.std.specs.List.{find, list_any}
use Rattle.rev_core.specs.Rev.{RevId}
use Rattle.rev_tree.specs.declared.origin.SessionId.{SessionId}
use Rattle.doc_json.specs.Document.{Document}
use Rattle.couch_base.specs.Database.{Id, DatabaseValue, no_documents_at, most}
use Rattle.couch_base.specs.Feed.{WindowValue}
use Rattle.couch_base.specs.declared.fault.BaseFault.{BaseFault}
use Rattle.couch_base.specs.declared.fault.BaseFault.TheVariants as base_faults
use Rattle.range_front.specs.Front.{FrontValue}
use Rattle.repl_log.specs.declared.replication.RepId.{RepId}
use Rattle.repl_log.specs.Entry.{EntryValue}
use Rattle.repl_log.specs.declared.counts.Counts.{Counts}
use Rattle.repl_peer.specs.declared.fault.Reason.{Reason}
use Rattle.repl_peer.specs.declared.session.beginning.Scope.{Scope}

-- The document id and the revisions of a local write or an arrival (a stored document).
pub record WrittenValue : Type 0 where
  pub id : Id
  pub ancestry : List RevId

-- A refused document, and why it was refused.
pub record RefusedValue : Type 0 where
  pub doc : Document
  pub reason : Reason

-- An incoming session of a peer. A session has a scope, which never changes. A session also has windows, and a front
-- that says which windows are done. A session also has arrivals, a ledger of refused documents, counts, a recorded
-- sequence, and two timestamps.
pub record SessionValue : Type 0 where
  pub id : SessionId
  pub scope : Scope
  pub open scope use *
  pub front : FrontValue
  pub windows : List WindowValue
  pub recorded : ℕ
  pub arrivals : List WrittenValue
  pub ledger : List RefusedValue
  pub counts : Counts
  pub start_time : ℕ
  pub end_time : ℕ

-- A peer: a database, its local writes, its incoming sessions (newest first), and its outgoing logs (each newest
-- first).
pub record PeerValue : Type 0 where
  pub db : DatabaseValue
  pub locals : List WrittenValue
  pub sessions : List SessionValue
  pub outgoing : List (RepId × List EntryValue)

-- A new peer, which has no documents, and whose update sequence is `seq`.
abbrev pub new_peer_at : ℕ → ℕ → PeerValue
new_peer_at uuid seq = record { db = no_documents_at uuid seq; locals = []; sessions = []; outgoing = [] }

-- A new peer, which has no documents, and whose update sequence is 0.
abbrev pub new_peer : ℕ → PeerValue
new_peer uuid = new_peer_at uuid 0

-- The result of creating a peer at update sequence `seq`. The result is `SeqTooLarge` if `seq` is above the maximum.
abbrev pub new_at_answer : {F : Type 0} → F → ℕ → ℕ → Result (F × PeerValue) BaseFault
new_at_answer filter uuid seq =
    if nat_le seq most then Ok (filter, new_peer_at uuid seq) else Err base_faults.SeqTooLarge

abbrev pub written_of : Document → WrittenValue
written_of d = record { id = d.id; ancestry = d.ancestry }

-- ---- sessions

abbrev pub is_of : SessionId → SessionValue → Bool
is_of id s = s.id.0 == id.0

-- The session with the given id, or `None` if the peer has no such session.
abbrev pub session_in : List SessionValue → SessionId → Option SessionValue
session_in sessions id = find (is_of id) sessions

abbrev pub holds : List SessionValue → SessionId → Bool
holds sessions id = list_any (is_of id) sessions

-- A peer's sessions after session t has replaced the session with the same id.
abbrev pub with_session : List SessionValue → SessionValue → List SessionValue
with_session sessions t = map (λ s. if is_of t.id s then t else s) sessions

-- The log entry that describes session s.
abbrev pub entry_of : SessionValue → EntryValue
entry_of s = record {
  session = s.id;
  life = s.life;
  start = s.front.start;
  recorded = s.recorded;
  start_time = s.start_time;
  end_time = s.end_time;
  counts = s.counts;
}
