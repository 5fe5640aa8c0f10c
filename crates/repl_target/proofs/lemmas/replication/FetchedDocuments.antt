-- Documents as a source sends them, and what the calls of a run keep.
use Rattle.proof_prelude.proofs.{◌≡◌, Bool, true, List, [], ◌∷◌, ◌++◌, map, Option, Some, None, unwrap_or, refl, sym, ◌∙◌, subst, inl, inr, AllByRecursion, list_any}
use Rattle.rev_core.specs.{RevId, is_among}
use Rattle.rev_tree.specs.{TreeValue, IsTree, is_leaf, leaves, leaves_above, ancestors, no_revisions, is_among-leaves, Origin, SessionId}
use Rattle.doc_json.specs.Document.{Document}
use Rattle.doc_json.specs.{Choice}
use Rattle.couch_base.specs.{Among, each_member, Id, DatabaseValue, LawfulDatabase, tree_in, tree_of, IsDocumentTree-tree_in, IsTree-no_revisions, WantedValue, ParcelValue, leaf_document, opened, open_revs, fetched, after_put}
use Rattle.repl_peer.specs.{PeerValue, fed, after_settle}
use Rattle.repl_target.specs.{Call, Append, Settle, Stop, Record, Conclude, after_call, after_calls, after_some, IsPageOf, IsFrom, AllFrom, IsGrown}
use Rattle.repl_peer.proofs.{Arrived, Source, KeptByChanges, ends_keep, append_keep, record_keep, conclude_keep, after_settle_ends, after_stop_ends, Among-filter, among_test}

pub tree_lawful : (db : DatabaseValue) → LawfulDatabase db → (id : Id) → IsTree (tree_of db.docs id)
tree_lawful db law id = go (tree_in db.docs id) refl
  where
    go : (o : Option TreeValue) → tree_in db.docs id ≡ o → IsTree (unwrap_or o no_revisions)
    go None e = IsTree-no_revisions
    go (Some t) e = (IsDocumentTree-tree_in db law id t e).tree

-- a document as the source sends it: a leaf with all of its ancestors and its content
pub record IsLeafOf (source : DatabaseValue) (d : Document) : Type 0 where
  pub id : Id
  pub leaf : RevId
  pub top : is_leaf (tree_of source.docs id) leaf ≡ true
  pub is : d ≡ leaf_document id (tree_of source.docs id) leaf

-- ---- fetched documents

tops : (source : DatabaseValue) (id : Id) (xs : List RevId) → ((x : RevId) → Among x xs → is_leaf (tree_of source.docs id) x ≡ true) → AllByRecursion (IsLeafOf source) (map (leaf_document id (tree_of source.docs id)) xs)
tops source id [] h = tt
tops source id (x ∷ xs) h = (record { id = id; leaf = x; top = h x (inl refl); is = refl }, tops source id xs (λ y m. h y (inr m)))

all_joined : {X : Type 0} (P : X → Type 0) (xs ys : List X) → AllByRecursion P xs → AllByRecursion P ys → AllByRecursion P (xs ++ ys)
all_joined P [] ys h k = k
all_joined P (x ∷ xs) ys h k = (h.0, all_joined P xs ys h.1 k)

pub fetched_leaves : (source : DatabaseValue) (ws : List WantedValue) → AllByRecursion (IsLeafOf source) (fetched source.docs ws)
fetched_leaves source [] = tt
fetched_leaves source (w ∷ ws) =
    let t = tree_of source.docs w.id in
    all_joined (IsLeafOf source) (opened w.id t w.revs) (fetched source.docs ws)
    (tops source w.id (leaves_above t w.revs) (λ x m. sym (is_among-leaves t x) ∙ among_test x (leaves t) (Among-filter (λ leaf. list_any (λ r. is_among r (ancestors t leaf)) w.revs) x (leaves t) m).0))
    (fetched_leaves source ws)

-- the documents of a call are the source's
handed : (source : DatabaseValue) (parcel : ParcelValue) → parcel ≡ open_revs source parcel.asked → (d : Document) → Among d parcel.docs → IsLeafOf source d
handed source parcel is d m =
    each_member (IsLeafOf source) d parcel.docs (subst (λ (x : ParcelValue). AllByRecursion (IsLeafOf source) x.docs) (sym is) (fetched_leaves source parcel.asked.docs)) m

-- ---- what the calls of a run keep

-- what is known about the messages of a run
abbrev pub of_run : DatabaseValue → Choice → SessionId → Source
of_run source chosen run = record { doc = IsLeafOf source; window = λ s w. (s.id ≡ run) × IsPageOf source chosen w }

module _ (refuses : Document → Bool) (source : DatabaseValue) (chosen : Choice) (run : SessionId) (P : PeerValue → Type 0) (keeps : KeptByChanges refuses (of_run source chosen run) (λ p _. P p)) where
  call_keep : (p : PeerValue) (c : Call) → IsFrom source chosen run c → P p → P (after_call refuses p c)
  call_keep p (Append session window) from h = append_keep refuses (of_run source chosen run) P keeps p session window (λ s m own. (own ∙ from.0, from.1)) h
  call_keep p (Settle session parcel) from h = ends_keep refuses (of_run source chosen run) P keeps p session parcel (after_settle refuses p session parcel) (after_settle_ends refuses p session parcel) (handed source parcel from.1) h
  call_keep p (Stop session parcel settled) from h = ends_keep refuses (of_run source chosen run) P keeps p session parcel (after_some refuses p session parcel settled) (after_stop_ends refuses p session parcel _) (handed source parcel from.1) h
  call_keep p (Record session at) from h = record_keep refuses (of_run source chosen run) P keeps p session at h
  call_keep p (Conclude session at) from h = conclude_keep refuses (of_run source chosen run) P keeps p session at h
  call_keep p call from h = absurd from

  calls_keep : (calls : List Call) (p : PeerValue) → AllFrom source chosen run calls → P p → P (after_calls refuses p calls)
  calls_keep [] p from h = h
  calls_keep (c ∷ calls) p from h = calls_keep calls (after_call refuses p c) from.1 (call_keep p c from.0 h)

  pub run_keeps : (given now : PeerValue) → IsGrown refuses source chosen run given now → P given → P now
  run_keeps given now grown h = subst P (sym grown.2) (calls_keep grown.0 given grown.1 h)

-- a property of a database that each put of a document of the source keeps
pub database_kept : (refuses : Document → Bool) (source : DatabaseValue) (chosen : Choice) (run : SessionId) (D : DatabaseValue → Type 0) → ((db : DatabaseValue) (d : Document) (o : Origin) → IsLeafOf source d → D db → D (after_put db d o))
    → KeptByChanges refuses (of_run source chosen run) (λ p _. D p.db)
database_kept refuses source chosen run D puts p s (Arrived window doc) m may h = puts p.db doc (fed window s.id doc) may.from h
database_kept refuses source chosen run D puts p s change m may h = h
