-- Defines replication in both directions, as specified in docs/PROFILE.md, "Both ways", and in PouchDB, `sync`.
use Rattle.std.specs.Prelude.{◌≡◌, Bool, true, Result, Ok, Err}
use Rattle.rev_core.specs.Rev.{RevId}
use Rattle.rev_tree.specs.Tree.{has, is_leaf}
use Rattle.rev_tree.specs.Agreement.{Agree, IsWhole}
use Rattle.doc_json.specs.Document.{Document}
use Rattle.doc_json.specs.Chosen.{is_chosen}
use Rattle.couch_base.specs.Lists.{Among}
use Rattle.couch_base.specs.Database.{Id, DatabaseValue, tree_of}
use Rattle.repl_peer.specs.peer.Peer.{PeerValue, SessionValue, RefusedValue}
use Rattle.repl_target.specs.replication.Replication.{SameDocument, Replicates}
use Rattle.repl_target.specs.ties.Ties.{IsTiedPair}
use Rattle.repl_target.specs.declared.replication.sync.SyncFault.{SyncFault}
use Rattle.repl_target.specs.declared.replication.sync.SyncFault.TheVariants as faults
use Rattle.repl_target.specs.declared.replication.sync.Synced.{Synced}
use Rattle.repl_peer.specs.declared.fault.Report.{Report}
use Rattle.repl_peer.specs.declared.fault.TargetFault.{TargetFault}
use Rattle.repl_target.specs.declared.replication.Plan.{Plan}

-- The result of replicating from a to b and then from b to a, and the two peers afterwards. The replication from b to a
-- runs only if the replication from a to b succeeded.
pub data Syncs (refuses_a refuses_b : Document → Bool) (a b : PeerValue) (there back : Plan) : Result Synced
    SyncFault → PeerValue → PeerValue → Type 0 where
  refused_there : {why : TargetFault} {a' b' : PeerValue} → Replicates refuses_b a b there (Err why) a' b'
      → Syncs refuses_a refuses_b a b there back (Err (faults.There why)) a' b'
  refused_back : {report : Report} {why : TargetFault} {a' b' a'' b'' : PeerValue}
      → Replicates refuses_b a b there (Ok report) a' b' → Replicates refuses_a b' a' back (Err why) b'' a''
      → Syncs refuses_a refuses_b a b there back (Err (faults.Back why)) a'' b''
  both : {reports : Synced} {a' b' a'' b'' : PeerValue} → Replicates refuses_b a b there (Ok reports.there) a' b'
      → Replicates refuses_a b' a' back (Ok reports.back) b'' a''
      → Syncs refuses_a refuses_b a b there back (Ok reports) a'' b''

-- ---- meaning

-- Each leaf of document `id` in database `db` is in the document's tree in database `knower`.
abbrev pub KnowsLeaves : DatabaseValue → DatabaseValue → Id → Type 0
KnowsLeaves knower db id =
    (leaf : RevId) → is_leaf (tree_of db.docs id) leaf ≡ true → has (tree_of knower.docs id) leaf ≡ true

-- No session of peer p has refused document `id`.
abbrev pub HasRefusedNone : PeerValue → Id → Type 0
HasRefusedNone p id =
    (s : SessionValue) → Among s p.sessions → (x : RefusedValue) → Among x s.ledger → x.doc.id ≡ id → ⊥

-- How replications in both directions between databases a and b change document `id`. After replications in both
-- directions, each of the databases a' and b' has all leaves of document `id` that the other database has. If the
-- document's trees in the earlier databases a and b agree and have complete histories, the document is the same in a'
-- and b'.
pub record Meets (a b a' b' : DatabaseValue) (id : Id) : Type 0 where
  pub there : KnowsLeaves b' a' id
  pub back : KnowsLeaves a' b' id
  pub same : Agree (tree_of a.docs id) (tree_of b.docs id) → IsWhole (tree_of a.docs id) → IsWhole (tree_of b.docs id)
      → SameDocument a' b' id
  -- If the document's trees in databases a and b agree, the document's trees in a' and b' agree. If the document's
  -- trees in databases a and b have complete histories, the document's trees in a' and b' have complete histories.
  pub agree : Agree (tree_of a.docs id) (tree_of b.docs id) → Agree (tree_of a'.docs id) (tree_of b'.docs id)
  pub whole : IsWhole (tree_of a.docs id) → IsWhole (tree_of b.docs id)
      → IsWhole (tree_of a'.docs id) × IsWhole (tree_of b'.docs id)

-- If peers a and b were consistent in both directions (`IsTiedPair`), each shared document satisfies `Meets` after the
-- replications in both directions. A document is shared if both plans select the document, and neither peer has ever
-- refused the document.
abbrev pub MeetBoth : PeerValue → PeerValue → PeerValue → PeerValue → Plan → Plan → Type 0
MeetBoth a b a' b' there back =
    IsTiedPair a b there.chosen → IsTiedPair b a back.chosen → (id : Id) → HasRefusedNone a' id → HasRefusedNone b' id
    → is_chosen there.chosen id ≡ true → is_chosen back.chosen id ≡ true → Meets a.db b.db a'.db b'.db id
