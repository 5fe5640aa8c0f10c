-- Defines networks of any number of peers, each at a numbered place, as specified in docs/PROFILE.md, "Nets", and in
-- CouchDB, "Replication and conflict model". Replications between any two peers of a network may be made, in any order.
use Rattle.std.specs.Prelude.{◌≡◌, ◌⊎◌, ℕ, ◌<◌, Bool, true, List, [], ◌∷◌, map, length, Option, Some, Ok, slice_get}
use Rattle.rev_core.specs.Rev.{RevId}
use Rattle.rev_tree.specs.Tree.{TreeValue, has, merged, no_revisions}
use Rattle.rev_tree.specs.Agreement.{Agree, IsWhole, IsRoot}
use Rattle.rev_tree.specs.declared.origin.Origin.TheVariants.{Local}
use Rattle.doc_json.specs.Document.{Document}
use Rattle.doc_json.specs.Chosen.{is_chosen}
use Rattle.couch_base.specs.Database.{Id, DatabaseValue, tree_of}
use Rattle.couch_base.specs.Put.{content_of}
use Rattle.couch_base.specs.Edit.{edited, edit_document}
use Rattle.repl_peer.specs.peer.Peer.{PeerValue}
use Rattle.repl_peer.specs.peer.Backups.{BackupValue}
use Rattle.couch_base.specs.Lists.{Among}
use Rattle.repl_target.specs.replication.Replication.{SameDocument}
use Rattle.repl_target.specs.replication.Sync.{HasRefusedNone}
use Rattle.repl_network.specs.declared.hop.Hop.{Hop}
use Rattle.repl_network.specs.Network.{AreConsistent, IsNetwork}

-- The list of a network's peers, without the filters of these peers.
abbrev pub peers_of : {F : Type 0} → List (F × PeerValue) → List PeerValue
peers_of peers = map (λ p. p.1) peers

-- The filters of a network's peers.
abbrev pub filters_of : {F : Type 0} → List (F × PeerValue) → List F
filters_of peers = map (λ p. p.0) peers

-- The peer at place n of the network is p.
abbrev pub IsAt : List PeerValue → ℕ → PeerValue → Type 0
IsAt peers n p = slice_get peers n ≡ Some p

-- The backup b of the peer with index n is in the network's list `backups`.
abbrev pub AreKept : List (ℕ × BackupValue) → ℕ → BackupValue → Type 0
AreKept backups n b = Among (n, b) backups

-- For every selection, every two peers of a network are consistent in both directions. No two peers of a network have
-- the same UUID.
abbrev pub AreTied : List PeerValue → Type 0
AreTied peers = AreConsistent (slice_get peers) (AreKept [])

-- The peer at place n of the network has the UUID `uuid`.
abbrev pub IsHeldAt : List PeerValue → ℕ → ℕ → Type 0
IsHeldAt peers uuid n = (p : PeerValue) × IsAt peers n p × (p.db.uuid ≡ uuid)

-- One of the network's peers has the UUID `uuid`.
abbrev pub IsHeld : List PeerValue → ℕ → Type 0
IsHeld peers uuid = (n : ℕ) × (p : PeerValue) × IsAt peers n p × (p.db.uuid ≡ uuid)

-- The invariant of a network with the given backups.
abbrev pub IsNet : List (ℕ × BackupValue) → List PeerValue → Type 0
IsNet backups peers = IsNetwork (slice_get peers) (AreKept backups)

-- ---- one document's trees at all peers

-- In the trees of all peers, a revision of the document never has two different parents or two different contents.
abbrev pub AllAgree : List PeerValue → Id → Type 0
AllAgree peers id =
    (m n : ℕ) (p q : PeerValue) → IsAt peers m p → IsAt peers n q → Agree (tree_of p.db.docs id) (tree_of q.db.docs id)

-- At every peer, the tree of the document has complete histories.
abbrev pub AllWhole : List PeerValue → Id → Type 0
AllWhole peers id = (n : ℕ) (p : PeerValue) → IsAt peers n p → IsWhole (tree_of p.db.docs id)

-- No peer of the network has refused the document.
abbrev pub IsRefusedNowhere : List PeerValue → Id → Type 0
IsRefusedNowhere peers id = (n : ℕ) (p : PeerValue) → IsAt peers n p → HasRefusedNone p id

-- The document's trees are the same in all peers of the network.
abbrev pub IsSameEverywhere : List PeerValue → Id → Type 0
IsSameEverywhere peers id =
    (m n : ℕ) (p q : PeerValue) → IsAt peers m p → IsAt peers n q → SameDocument p.db q.db id

-- ---- replications

-- The plan of each hop in a list of hops selects the document `id`.
abbrev pub AllChoose : List Hop → Id → Type 0
AllChoose [] id = Unit {0}
AllChoose (h ∷ hops) id = (is_chosen h.plan.chosen id ≡ true) × AllChoose hops id

-- A chain of hops in the list `hops` leads from the peer with index `from` to the peer with index `to`. A chain
-- consists of some hops of the list, in the order of the list. The target of each hop in a chain is the source of the
-- chain's next hop.
abbrev pub Leads : List Hop → ℕ → ℕ → Type 0
Leads [] from to = from ≡ to
Leads (h ∷ hops) from to = Leads hops from to ⊎ (from ≡ h.from) × Leads hops h.to to

-- In a network of `count` peers, a chain of hops from the list `hops` leads from each peer to each other peer.
abbrev pub LeadsEverywhere : List Hop → ℕ → Type 0
LeadsEverywhere hops count = (m n : ℕ) → m < count → n < count → Leads hops m n

-- ---- guarantees

-- How consecutive hops change a document that each hop's plan selects and no peer has refused. Before the hops, the
-- peers of the network must be consistent, and the document's trees must agree and have complete histories. If a chain
-- of hops (replications) leads from peer m to peer n, peer n gets all revisions of document `id` that peer m had. If a
-- chain of hops leads from each peer to each other peer, all peers have the same document `id` after the hops. After
-- the hops, the document's trees agree and have complete histories, and each revision in these trees was at some peer
-- before the hops.
pub record Spreads (peers : List PeerValue) (hops : List Hop) (peers' : List PeerValue) (id : Id) : Type 0 where
  pub along : (m n : ℕ) (p q : PeerValue) → IsAt peers m p → IsAt peers' n q → Leads hops m n
      → (r : RevId) → has (tree_of p.db.docs id) r ≡ true → has (tree_of q.db.docs id) r ≡ true
  pub same : LeadsEverywhere hops (length peers) → IsSameEverywhere peers' id
  pub came : (n : ℕ) (q : PeerValue) → IsAt peers' n q → (r : RevId) → has (tree_of q.db.docs id) r ≡ true
      → (m : ℕ) × (p : PeerValue) × IsAt peers m p × (has (tree_of p.db.docs id) r ≡ true)
  pub agree : AllAgree peers' id
  pub whole : AllWhole peers' id

abbrev pub Spread : List PeerValue → List Hop → List PeerValue → Type 0
Spread peers hops peers' =
    (id : Id) → AllChoose hops id → IsRefusedNowhere peers' id → AllAgree peers id → AllWhole peers id
    → Spreads peers hops peers' id

-- ---- writes

-- The revision tree that has only the ancestry and content of document d.
abbrev pub tree_alone : Document → TreeValue
tree_alone d = merged no_revisions d.ancestry (content_of d.deleted d.body) (Local 0)

-- No peer's tree disagrees with document d about a revision's parent or content.
abbrev pub FitsIn : List PeerValue → Document → Type 0
FitsIn peers d = (n : ℕ) (p : PeerValue) → IsAt peers n p → Agree (tree_of p.db.docs d.id) (tree_alone d)

-- The ancestry of document d reaches generation 1, or its oldest revision is in the document's tree in the given
-- database.
abbrev pub IsRooted : DatabaseValue → Document → Type 0
IsRooted db d =
    (r : RevId) → IsRoot (tree_alone d) r → (r.generation ≡ 1) ⊎ (has (tree_of db.docs d.id) r ≡ true)

abbrev pub IsRootedAt : List PeerValue → ℕ → Document → Type 0
IsRootedAt peers place d = (p : PeerValue) → IsAt peers place p → IsRooted p.db d

-- No peer's tree disagrees with the edited document about a revision's parent or content. If only edits made a
-- document, an edit of this document can violate `EditFits` only if two different edits have the same MD5.
abbrev pub EditFits : List PeerValue → ℕ → Id → Option RevId → Bool → List ℕ → Type 0
EditFits peers place id parent deleted body =
    (p : PeerValue) → IsAt peers place p → (e : RevId × Option RevId) → edited p.db id parent deleted body ≡ Ok e
    → FitsIn peers (edit_document id e deleted body)

-- If the trees of a document agreed and had complete histories before a write, these trees agree and have complete
-- histories after the write.
abbrev pub KeepsAgreement : List PeerValue → List PeerValue → Id → Type 0
KeepsAgreement peers peers' id = AllAgree peers id → AllWhole peers id → AllAgree peers' id × AllWhole peers' id
