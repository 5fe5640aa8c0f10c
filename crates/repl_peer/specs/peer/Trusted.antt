-- Defines the guarantees of every peer, as specified in docs/PROFILE.md, "The peer's law".
use Rattle.std.specs.Prelude.{◌≡◌, ◌⊎◌, ◌≤◌, Bool, true}
use Rattle.rev_core.specs.Rev.{RevId}
use Rattle.rev_core.specs.Ancestry.{is_among}
use Rattle.rev_tree.specs.Tree.{has}
use Rattle.doc_json.specs.Document.{Document}
use Rattle.couch_base.specs.Lists.{Among}
use Rattle.couch_base.specs.Database.{Id, tree_of}
use Rattle.couch_base.specs.Feed.{RowValue, WindowValue}
use Rattle.repl_log.specs.Counts.{AddUp}
use Rattle.repl_peer.specs.peer.Peer.{PeerValue, SessionValue, RefusedValue}
use Rattle.repl_peer.specs.peer.Covered.{rightly_refused}
use Rattle.repl_peer.specs.peer.Origins.{HasOrigins}

-- A ledger of peer p has a rightly refused document `id`, and the ancestry of this document has revision r.
pub record IsRightlyRefused (refuses : Document → Bool) (p : PeerValue) (id : Id) (r : RevId) : Type 0 where
  pub by : SessionValue
  pub held : Among by p.sessions
  pub refused : RefusedValue
  pub stored : Among refused by.ledger
  pub of : refused.doc.id ≡ id
  pub holds : is_among r refused.doc.ancestry ≡ true
  pub rightly : rightly_refused refuses p.db refused.doc ≡ true

-- Revision r is in the tree of document `id`, or in the ancestry of a rightly refused document with the id `id`.
abbrev pub IsAccounted : (Document → Bool) → PeerValue → Id → RevId → Type 0
IsAccounted refuses p id r = (has (tree_of p.db.docs id) r ≡ true) ⊎ IsRightlyRefused refuses p id r

-- The guarantees that replication gives for the data of peer p. If the sequence of a session's row is at most the
-- session's recorded sequence, each leaf of the row is in its document's tree, or was rightly refused. Every revision
-- of a peer comes from a row of a window or from a local write. In each session, the number of documents read is the
-- number of documents written plus the number of documents refused.
pub record IsTrusted (refuses : Document → Bool) (p : PeerValue) : Type 0 where
  pub recorded : (s : SessionValue) → Among s p.sessions → (w : WindowValue) → Among w s.windows → (row : RowValue)
      → Among row w.rows → row.seq ≤ s.recorded → (leaf : RevId) → Among leaf row.leaves
      → IsAccounted refuses p row.id leaf
  pub origins : HasOrigins p
  pub counts : (s : SessionValue) → Among s p.sessions → AddUp s.counts
