-- Defines how a replication changes both peers, whether it runs on one thread or on several threads. Replications are
-- specified in docs/PROFILE.md, "Replication by one thread", "The pool" and "Tied peers".
use Rattle.std.specs.Prelude.{◌≡◌, ◌⊎◌, Bool, List}
use Rattle.rev_tree.specs.Agreement.{IsGrownBy}
use Rattle.doc_json.specs.Document.{Document}
use Rattle.doc_json.specs.Chosen.{Choice}
use Rattle.couch_base.specs.Database.{Id, DatabaseValue, tree_of}
use Rattle.repl_log.specs.Entry.{EntryValue}
use Rattle.repl_peer.specs.logs.Checkpoint.{rep_between}
use Rattle.repl_peer.specs.logs.Logs.{after_put_entry}
use Rattle.repl_peer.specs.peer.Backups.{BackupValue}
use Rattle.repl_peer.specs.peer.Peer.{PeerValue}
use Rattle.repl_target.specs.declared.replication.Plan.{Plan}
use Rattle.repl_target.specs.ties.Ties.{IsTiedWith, IsSentEntry, KeepsOthersTied}
use Rattle.repl_target.specs.replication.Calls.{IsLeft}

-- Each document's tree in database `now` has grown from the document's tree in database `old`. All added data is from
-- the document's tree in database `other` (`IsGrownBy`).
abbrev pub HasGrownBy : DatabaseValue → DatabaseValue → DatabaseValue → Type 0
HasGrownBy old other now = (id : Id) → IsGrownBy (tree_of old.docs id) (tree_of other.docs id) (tree_of now.docs id)

-- A replication leaves the source unchanged, or puts an entry into the source's log. The entry names a session of the
-- target.
abbrev pub IsPut : PeerValue → PeerValue → Choice → PeerValue → Type 0
IsPut source target chosen source' =
    (source' ≡ source)
    ⊎ (e : EntryValue) × IsSentEntry target e × (source' ≡ after_put_entry source (rep_between source target chosen) e)

-- How a replication changes both peers. At the source of a replication, only the log may have changed. A replication
-- changes its target only by beginning the plan's session, and by calls for this session. A replication keeps the
-- source and the target consistent with each other (`IsTiedWith`). `KeepsOthersTied` states when the source and the
-- target stay consistent with third peers.
pub record Leaves (refuses : Document → Bool) (source target : PeerValue) (plan : Plan) (source' target' : PeerValue)
    : Type 0 where
  pub log : source' ≡ record source { outgoing = source'.outgoing }
  pub put : IsPut source target' plan.chosen source'
  pub left : IsLeft refuses source target plan target'
  pub tied : (chosen : Choice) (backups : List BackupValue) → IsTiedWith backups source target chosen
      → IsTiedWith backups source' target' chosen
  pub others : KeepsOthersTied source target source' target'
