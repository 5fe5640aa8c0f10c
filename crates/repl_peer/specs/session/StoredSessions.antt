-- Defines the stored form of a peer's sessions: the table by session id, the ledger index, and the index by
-- replication.
use Rattle.std.specs.Prelude.{◌≡◌, List, map, reverse}
use Rattle.std.specs.List.{IsDistinct}
use Rattle.std.specs.Map.{keys_of}
use Rattle.rev_core.specs.Rev.{RevId}
use Rattle.rev_tree.specs.declared.origin.SessionId.{SessionId}
use Rattle.couch_base.specs.Database.{Id}
use Rattle.repl_log.specs.declared.replication.RepId.{RepId}
use Rattle.repl_log.specs.Stored.{at_session, newest_first, IsKeyed}
use Rattle.repl_peer.specs.peer.Peer.{SessionValue}
use Rattle.repl_peer.specs.session.LedgerIndex.{is_ledgered}
use Rattle.repl_peer.specs.session.SessionCalls.{in_ledgers}
use Rattle.repl_peer.specs.logs.Logs.{log_of}
use Rattle.repl_peer.specs.session.RepIndex.{listed}
use Rattle.repl_peer.specs.declared.session.rep_index.RepIndex.{RepIndex}
use Rattle.repl_peer.specs.declared.session.ledger_index.LedgerIndex.{LedgerIndex}

-- The sessions of a peer's stored table, newest first.
abbrev pub sessions_of : List (SessionId × SessionValue) → List SessionValue
sessions_of es = newest_first (λ s. s) es

-- The ledger index has exactly the revisions of the documents in the sessions' ledgers.
abbrev pub Indexes : LedgerIndex → List SessionValue → Type 0
Indexes ledgered sessions = (id : Id) (r : RevId) → is_ledgered ledgered id r ≡ in_ledgers sessions id r

-- No session id occurs twice in the table, each session is stored under the session's id, and the ledger index has the
-- revisions of the sessions' ledgers.
pub record IsTableOf (ledgered : LedgerIndex) (es : List (SessionId × SessionValue)) : Type 0 where
  pub once : IsDistinct at_session (keys_of es)
  pub keyed : IsKeyed (λ s. s.id) es
  pub index : Indexes ledgered (sessions_of es)

-- The ids of the sessions of a replication, newest first.
abbrev pub ids_of : List SessionValue → RepId → List SessionId
ids_of sessions rep = map (λ e. e.session) (log_of sessions rep)

-- For each replication, the index lists exactly the ids of the replication's sessions.
abbrev pub AreListed : RepIndex → List SessionValue → Type 0
AreListed by_rep sessions = (rep : RepId) → listed by_rep rep ≡ reverse (ids_of sessions rep)
