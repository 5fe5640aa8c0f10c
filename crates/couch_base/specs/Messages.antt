-- Defines requests for missing revisions, and fetched parcels, as specified in docs/PROFILE.md, "Missing revisions" and
-- "Fetching". The corresponding requests in CouchDB's "Replication Protocol" are `_revs_diff`, and fetches with the
-- parameter `latest`.
use Rattle.std.specs.Prelude.{◌≡◌, ℕ, ◌<◌, Bool, true, false, ◌&&◌, ◌||◌, List, [], ◌∷◌, ◌++◌, map, length, Option, refl}
use Rattle.std.specs.Coded.{Coded, code_by, coded×, coded_ℕ, coded_list}
use Rattle.std.specs.List.{list_any, list_all, AllByRecursion}
use Rattle.std.specs.Option.{option_map, option_map_or}
use Rattle.std.specs.Ordering.{eq_by_cmp}
use Rattle.std.specs.Str.{bytes_eq}
use Rattle.std.specs.FinMap.{get}
use Rattle.rev_core.specs.Rev.{RevId, rev_cmp}
use Rattle.rev_core.specs.RevOrder.{coded_rev}
use Rattle.rev_core.specs.Ancestry.{is_among}
use Rattle.rev_tree.specs.Content.{ContentValue}
use Rattle.rev_tree.specs.Tree.{TreeValue, ancestors, is_deleted, leaves_above, missing}
use Rattle.doc_json.specs.Document.{Document, coded_doc}
use Rattle.couch_base.specs.Lists.{EachOnce}
use Rattle.couch_base.specs.Database.{Id, DocumentValue, DatabaseValue, coded_id, tree_of}
use Rattle.couch_base.specs.Feed.{RowValue, WindowValue}

-- A document's id and the revisions that are requested of this document.
pub record WantedValue : Type 0 where
  pub id : Id
  pub revs : List RevId

-- A request for a window of the feed: for each document, the revisions that the target requests.
pub record AskedValue : Type 0 where
  pub lo : ℕ
  pub hi : ℕ
  pub docs : List WantedValue

-- A parcel: the request, the fetched documents, and the requested revisions that do not exist.
pub record ParcelValue : Type 0 where
  pub asked : AskedValue
  pub docs : List Document
  pub gone : List (Id × RevId)

abbrev pub coded_wanted : Coded WantedValue
coded_wanted =
    code_by (Id × List RevId) (coded× coded_id (coded_list coded_rev)) (λ w. (w.id, w.revs))
    (λ p. record { id = p.0; revs = p.1 }) (λ _. refl)

abbrev pub coded_asked : Coded AskedValue
coded_asked =
    code_by (ℕ × (ℕ × List WantedValue)) (coded× coded_ℕ (coded× coded_ℕ (coded_list coded_wanted)))
    (λ a. (a.lo, (a.hi, a.docs))) (λ p. record { lo = p.0; hi = p.1.0; docs = p.1.1 }) (λ _. refl)

abbrev pub coded_parcel : Coded ParcelValue
coded_parcel =
    code_by (AskedValue × (List Document × List (Id × RevId)))
    (coded× coded_asked (coded× (coded_list coded_doc) (coded_list (coded× coded_id coded_rev))))
    (λ p. (p.asked, (p.docs, p.gone))) (λ p. record { asked = p.0; docs = p.1.0; gone = p.1.1 }) (λ _. refl)

-- ---- requesting

-- A list of requests: a request for the given revisions of document `id`, and then the requests `others`. If no
-- revisions are given, the list has only the requests `others`.
abbrev pub want_first : Id → List RevId → List WantedValue → List WantedValue
want_first id [] others = others
want_first id (r ∷ revs) others = record { id = id; revs = r ∷ revs } ∷ others

-- The requests for missing leaves: one request for each feed row that has missing leaves, in the order of the rows. A
-- leaf of a feed row is missing if the list `ds` lacks the row's document, or if the document's tree lacks the leaf.
abbrev pub wanted : List DocumentValue → List RowValue → List WantedValue
wanted ds [] = []
wanted ds (r ∷ rows) = want_first r.id (missing (tree_of ds r.id) r.leaves) (wanted ds rows)

-- The request of database `db` for window w of another database's feed: the leaves of w that `db` does not have.
abbrev pub revs_diff : DatabaseValue → WindowValue → AskedValue
revs_diff db w = record { lo = w.lo; hi = w.hi; docs = wanted db.docs w.rows }

-- ---- fetching

-- The body of revision r in tree t, or the empty list if t stores no content of r.
abbrev pub body_at : TreeValue → RevId → List ℕ
body_at t r = option_map_or (λ (b : ContentValue). b.body) (get t.contents r) []

-- The document that consists of a leaf of document `id`, with the leaf's known ancestry, deleted flag and body.
abbrev pub leaf_document : Id → TreeValue → RevId → Document
leaf_document id t leaf =
    record { id = id; ancestry = ancestors t leaf; deleted = is_deleted t leaf; body = body_at t leaf }

-- Revision r as a document: the document's id is `id`, and its ancestry and content come from the tree t. The value is
-- `None` if the tree t does not store the content of r.
abbrev pub document_in : Id → TreeValue → RevId → Option Document
document_in id t r =
    option_map (λ (c : ContentValue). record { id = id; ancestry = ancestors t r; deleted = c.deleted; body = c.body })
    (get t.contents r)

-- Revision r of document `id` as a document, if database `db` stores the content of r.
abbrev pub document_at : DatabaseValue → Id → RevId → Option Document
document_at db id r = document_in id (tree_of db.docs id) r

-- The leaves of document `id` that are requested revisions or descend from requested revisions, winner first.
abbrev pub opened : Id → TreeValue → List RevId → List Document
opened id t revs = map (leaf_document id t) (leaves_above t revs)

abbrev pub fetched : List DocumentValue → List WantedValue → List Document
fetched ds [] = []
fetched ds (w ∷ ws) = opened w.id (tree_of ds w.id) w.revs ++ fetched ds ws

-- The requested revisions that are not in the trees of the given documents.
abbrev pub gone_of : List DocumentValue → List WantedValue → List (Id × RevId)
gone_of ds [] = []
gone_of ds (w ∷ ws) = map (λ r. (w.id, r)) (missing (tree_of ds w.id) w.revs) ++ gone_of ds ws

-- The parcel that database `db` returns for request a.
abbrev pub open_revs : DatabaseValue → AskedValue → ParcelValue
open_revs db a = record { asked = a; docs = fetched db.docs a.docs; gone = gone_of db.docs a.docs }

-- ---- invariants

-- The request w names at least one revision of the document, and names no revision twice.
pub record IsWanted (w : WantedValue) : Type 0 where
  pub some : 0 < length w.revs
  pub distinct : EachOnce (eq_by_cmp rev_cmp) w.revs

-- A request names no document twice, and the requested revisions of each named document satisfy `IsWanted`.
pub record IsAsked (a : AskedValue) : Type 0 where
  pub distinct : EachOnce bytes_eq (map (λ w. w.id) a.docs)
  pub docs : AllByRecursion IsWanted a.docs

-- Whether document d has the id `id`, and the ancestry of d has revision r.
abbrev pub brings : Id → RevId → Document → Bool
brings id r d = bytes_eq d.id id && is_among r d.ancestry

-- Whether the gone revision g, which is a pair of a document id and a revision, is revision r of document `id`.
abbrev pub is_rev_of : Id → RevId → Id × RevId → Bool
is_rev_of id r g = bytes_eq g.0 id && eq_by_cmp rev_cmp r g.1

-- Whether each requested revision of a document is gone, or in the ancestry of a fetched document with the same id.
abbrev pub is_answered : List Document → List (Id × RevId) → WantedValue → Bool
is_answered docs gone w = list_all (λ r. list_any (brings w.id r) docs || list_any (is_rev_of w.id r) gone) w.revs

-- Whether the ancestry of a fetched document has a requested revision of that document.
abbrev pub is_wanted : List WantedValue → Document → Bool
is_wanted ws d = list_any (λ w. list_any (λ r. brings w.id r d) w.revs) ws

-- Whether two ancestries have the same newest revision.
abbrev pub same_head : List RevId → List RevId → Bool
same_head [] others = false
same_head (r ∷ revs) [] = false
same_head (r ∷ revs) (s ∷ others) = eq_by_cmp rev_cmp r s

-- Whether documents d and e have the same id and the same newest revision.
abbrev pub same_revision : Document → Document → Bool
same_revision d e = bytes_eq d.id e.id && same_head d.ancestry e.ancestry

-- The invariant of parcel p: each requested revision is fetched or gone, each fetched document was requested, and no
-- document is fetched twice at the same revision.
pub record IsParcel (p : ParcelValue) : Type 0 where
  pub asked : IsAsked p.asked
  pub answered : list_all (is_answered p.docs p.gone) p.asked.docs ≡ true
  pub wanted : list_all (is_wanted p.asked.docs) p.docs ≡ true
  pub distinct : EachOnce same_revision p.docs
