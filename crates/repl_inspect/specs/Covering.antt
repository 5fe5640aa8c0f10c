-- Defines properties of missing leaves and of ledgers, as specified in docs/PROFILE.md, "Covered leaves".
use Rattle.std.specs.Prelude.{◌≡◌, true, []}
use Rattle.std.specs.List.{list_any}
use Rattle.rev_core.specs.Rev.{RevId}
use Rattle.rev_tree.specs.Tree.{missing}
use Rattle.doc_json.specs.Chosen.{Choice}
use Rattle.couch_base.specs.Lists.{Among}
use Rattle.couch_base.specs.Database.{tree_of}
use Rattle.couch_base.specs.Feed.{RowValue, chosen_feed}
use Rattle.repl_peer.specs.peer.Peer.{PeerValue, SessionValue}
use Rattle.repl_peer.specs.peer.Covered.{in_ledger}

-- The ledgers of all sessions at a peer are empty.
abbrev pub HasNoLedger : PeerValue → Type 0
HasNoLedger p = (s : SessionValue) → Among s p.sessions → s.ledger ≡ []

-- If the target's trees lack a leaf of the source's selected feed, a target session has refused a document with this
-- leaf in its ancestry.
abbrev pub MissingIsRefused : PeerValue → PeerValue → Choice → Type 0
MissingIsRefused source target chosen =
    (row : RowValue) → Among row (chosen_feed chosen source.db 0 source.db.update_seq) → (leaf : RevId)
    → Among leaf (missing (tree_of target.db.docs row.id) row.leaves)
    → list_any (λ s. in_ledger s.ledger row.id leaf) target.sessions ≡ true
