-- Defines the replication between two peers, and the common checkpoint of the replication, as specified in
-- docs/PROFILE.md, "Replication ids and logs" and "Common checkpoint".
use Rattle.std.specs.Prelude.{ℕ, Option}
use Rattle.rev_tree.specs.declared.origin.SessionId.{SessionId}
use Rattle.doc_json.specs.Chosen.{Choice}
use Rattle.repl_log.specs.declared.replication.RepId.{RepId}
use Rattle.repl_log.specs.Log.{common}
use Rattle.repl_peer.specs.peer.Peer.{PeerValue}
use Rattle.repl_peer.specs.logs.Logs.{source_log, target_log}

-- The id of the replication of the selected documents from one peer's database to another peer's database.
abbrev pub rep_between : PeerValue → PeerValue → Choice → RepId
rep_between source target chosen = record { source = source.db.uuid; target = target.db.uuid; chosen = chosen }

-- The common checkpoint of a replication's logs at the source and at the target, or `None` if the logs have no common
-- checkpoint.
abbrev pub checkpoint_between : PeerValue → PeerValue → RepId → Option (SessionId × ℕ)
checkpoint_between source target rep = common (source_log source rep) (target_log target rep)
