-- Lemmas: a request for revisions satisfies the invariant of requests, and a parcel satisfies the invariant of parcels.
use Rattle.std.specs.Prelude.{◌≡◌, ℕ, zero, suc, true, false, not, ◌&&◌, ◌||◌, List, [], ◌∷◌, ◌++◌, map, refl}
use Rattle.std.proofs.Common.{ap, sym, ◌∙◌, inl, inr, arith}
use Rattle.std.proofs.lemmas.Bool.{or_right, false≢true, cases_Bool, or_left, or_cases, and_from, or_parts, and_left}
use Rattle.std.specs.List.{list_any, list_all, AllByRecursion}
use Rattle.std.specs.Ordering.{eq_by_cmp}
use Rattle.std.specs.Str.{bytes_eq}
use Rattle.std.specs.FinMap.{FinMap}
use Rattle.rev_core.specs.Rev.{RevId, rev_cmp}
use Rattle.rev_core.specs.RevOrder.{rev_tie_is}
use Rattle.rev_core.specs.Ancestry.{is_among}
use Rattle.rev_tree.specs.Tree.{TreeValue, has, ancestors, leaves, leaves_above, missing, walk}
use Rattle.rev_tree.specs.TreeLaws.{any_weaker, all_weaker}
use Rattle.rev_tree.specs.LeafLaws.{any_filter}
use Rattle.rev_tree.specs.MergeLaws.{leaf_among}
use Rattle.doc_json.specs.Document.{Document}
use Rattle.couch_base.specs.Lists.{EachOnce}
use Rattle.couch_base.specs.ListLaws.{any_left, any_right, none_append, all_append, all_made, all_members, each_filter, each_append, id_same}
use Rattle.couch_base.specs.Database.{Id, DocumentValue, DatabaseValue, LawfulDatabase, tree_of}
use Rattle.couch_base.specs.DatabaseLaws.{IsDocumentTree-tree_of}
use Rattle.couch_base.specs.Feed.{RowValue, WindowValue, IsRow, IsWindow}
use Rattle.couch_base.specs.FeedLaws.{EachOnce-leaves}
use Rattle.couch_base.specs.Messages.{WantedValue, AskedValue, IsWanted, IsAsked, IsParcel, want_first, wanted, revs_diff, leaf_document, opened, fetched, gone_of, open_revs, brings, is_rev_of, is_answered, is_wanted, same_head, same_revision}

-- ---- requesting

none_wanted : (ds : List DocumentValue) (id : Id) (rows : List RowValue) → list_any (bytes_eq id) (map (λ r. r.id) rows) ≡ false → list_any (bytes_eq id) (map (λ w. w.id) (wanted ds rows)) ≡ false
none_wanted ds id [] h = h
none_wanted ds id (r ∷ rows) h =
    let parts = or_parts (bytes_eq id r.id) (list_any (bytes_eq id) (map (λ r. r.id) rows)) h in
    elim (missing (tree_of ds r.id) r.leaves) as (λ revs. list_any (bytes_eq id) (map (λ w. w.id) (want_first r.id revs (wanted ds rows))) ≡ false) [
      | [] ↦ none_wanted ds id rows parts.1
      | x ∷ revs ↦ ap (λ b. b || list_any (bytes_eq id) (map (λ w. w.id) (wanted ds rows))) parts.0 ∙ none_wanted ds id rows parts.1
    ]

each_wanted : (ds : List DocumentValue) (rows : List RowValue) → EachOnce bytes_eq (map (λ r. r.id) rows) → EachOnce bytes_eq (map (λ w. w.id) (wanted ds rows))
each_wanted ds [] h = tt
each_wanted ds (r ∷ rows) h =
    elim (missing (tree_of ds r.id) r.leaves) as (λ revs. EachOnce bytes_eq (map (λ w. w.id) (want_first r.id revs (wanted ds rows)))) [
      | [] ↦ each_wanted ds rows h.1
      | x ∷ revs ↦ (none_wanted ds r.id rows h.0, each_wanted ds rows h.1)
    ]

wanted_first : (id : Id) (revs : List RevId) (others : List WantedValue) → EachOnce (eq_by_cmp rev_cmp) revs → AllByRecursion IsWanted others → AllByRecursion IsWanted (want_first id revs others)
wanted_first id [] others h k = k
wanted_first id (r ∷ revs) others h k = (record { some = omega arith; distinct = h }, k)

all_wanted : (ds : List DocumentValue) (rows : List RowValue) → AllByRecursion IsRow rows → AllByRecursion IsWanted (wanted ds rows)
all_wanted ds [] h = tt
all_wanted ds (r ∷ rows) h = wanted_first r.id (missing (tree_of ds r.id) r.leaves) (wanted ds rows) (each_filter (eq_by_cmp rev_cmp) (λ l. not (has (tree_of ds r.id) l)) r.leaves h.0.distinct) (all_wanted ds rows h.1)

-- A request for a window names no document twice, requests at least one revision of each named document, and requests
-- no revision of a document twice.
pub IsAsked-revs_diff : (db : DatabaseValue) (w : WindowValue) → IsWindow w → IsAsked (revs_diff db w)
IsAsked-revs_diff db w window = record { distinct = each_wanted db.docs w.rows window.distinct; docs = all_wanted db.docs w.rows window.rows }

-- ---- every requested revision is in a document of the parcel, or is listed as gone

any_opened : (id : Id) (t : TreeValue) (leaf r : RevId) (xs : List RevId) → is_among leaf xs ≡ true → is_among r (ancestors t leaf) ≡ true → list_any (brings id r) (map (leaf_document id t) xs) ≡ true
any_opened id t leaf r [] h above = absurd (false≢true h)
any_opened id t leaf r (x ∷ xs) h above =
    elim (or_cases _ _ h) [
      | inl tie ↦
          let here : brings id r (leaf_document id t x) ≡ true = and_from _ _ (id_same id) (ap (λ y. is_among r (ancestors t y)) (sym (rev_tie_is leaf x tie)) ∙ above) in
          ap (λ b. b || list_any (brings id r) (map (leaf_document id t) xs)) here
      | inr later ↦ or_right _ _ (any_opened id t leaf r xs later above)
    ]

any_gone : (id : Id) (r : RevId) (xs : List RevId) → is_among r xs ≡ true → list_any (is_rev_of id r) (map (λ x. (id, x)) xs) ≡ true
any_gone id r [] h = absurd (false≢true h)
any_gone id r (x ∷ xs) h =
    elim (or_cases _ _ h) [
      | inl tie ↦ ap (λ b. b || list_any (is_rev_of id r) (map (λ y. (id, y)) xs)) (and_from _ _ (id_same id) tie)
      | inr later ↦ or_right _ _ (any_gone id r xs later)
    ]

answered_rev : (db : DatabaseValue) → LawfulDatabase db → (id : Id) (revs : List RevId) (r : RevId) → is_among r revs ≡ true
    → (list_any (brings id r) (opened id (tree_of db.docs id) revs) || list_any (is_rev_of id r) (map (λ x. (id, x)) (missing (tree_of db.docs id) revs))) ≡ true
answered_rev db law id revs r asked =
    let t = tree_of db.docs id in
    elim (cases_Bool (has t r)) [
      | inl known ↦
          let up = leaf_among t (IsDocumentTree-tree_of db law id r known).tree revs r known asked in
          or_left _ _ (any_opened id t up.0 r (leaves_above t revs) up.1.among up.1.above)
      | inr absent ↦ or_right _ _ (any_gone id r (missing t revs) (any_filter (λ x. not (has t x)) r revs ∙ and_from _ _ asked (ap not absent)))
    ]

answered_left : (docs more : List Document) (gone others : List (Id × RevId)) (w : WantedValue) → is_answered docs gone w ≡ true → is_answered (docs ++ more) (gone ++ others) w ≡ true
answered_left docs more gone others w h =
    all_weaker (λ r. list_any (brings w.id r) docs || list_any (is_rev_of w.id r) gone) (λ r. list_any (brings w.id r) (docs ++ more) || list_any (is_rev_of w.id r) (gone ++ others))
    (λ r k. elim (or_cases _ _ k) [
      | inl brought ↦ or_left _ _ (any_left (brings w.id r) docs more brought)
      | inr absent ↦ or_right _ _ (any_left (is_rev_of w.id r) gone others absent)
    ]) w.revs h

answered_right : (docs more : List Document) (gone others : List (Id × RevId)) (w : WantedValue) → is_answered more others w ≡ true → is_answered (docs ++ more) (gone ++ others) w ≡ true
answered_right docs more gone others w h =
    all_weaker (λ r. list_any (brings w.id r) more || list_any (is_rev_of w.id r) others) (λ r. list_any (brings w.id r) (docs ++ more) || list_any (is_rev_of w.id r) (gone ++ others))
    (λ r k. elim (or_cases _ _ k) [
      | inl brought ↦ or_left _ _ (any_right (brings w.id r) docs more brought)
      | inr absent ↦ or_right _ _ (any_right (is_rev_of w.id r) gone others absent)
    ]) w.revs h

all_answered : (db : DatabaseValue) → LawfulDatabase db → (ws : List WantedValue) → list_all (is_answered (fetched db.docs ws) (gone_of db.docs ws)) ws ≡ true
all_answered db law [] = refl
all_answered db law (w ∷ ws) =
    let t = tree_of db.docs w.id in
    let docs = opened w.id t w.revs in
    let gone = map (λ r. (w.id, r)) (missing t w.revs) in
    and_from _ _
    (answered_left docs (fetched db.docs ws) gone (gone_of db.docs ws) w (all_members (λ r. list_any (brings w.id r) docs || list_any (is_rev_of w.id r) gone) w.revs (answered_rev db law w.id w.revs)))
    (all_weaker (is_answered (fetched db.docs ws) (gone_of db.docs ws)) (is_answered (docs ++ fetched db.docs ws) (gone ++ gone_of db.docs ws))
    (λ x. answered_right docs (fetched db.docs ws) gone (gone_of db.docs ws) x) ws (all_answered db law ws))

-- ---- every fetched document of a parcel was requested

opened_wanted : (w : WantedValue) (ws : List WantedValue) (t : TreeValue) → list_all (is_wanted (w ∷ ws)) (opened w.id t w.revs) ≡ true
opened_wanted w ws t =
    all_made (is_wanted (w ∷ ws)) (leaf_document w.id t) (λ leaf. list_any (λ r. is_among r (ancestors t leaf)) w.revs)
    (λ leaf above. or_left _ _ (any_weaker (λ r. is_among r (ancestors t leaf)) (λ r. brings w.id r (leaf_document w.id t leaf)) (λ r k. and_from _ _ (id_same w.id) k) w.revs above))
    (leaves t)

fetched_wanted : (ds : List DocumentValue) (ws : List WantedValue) → list_all (is_wanted ws) (fetched ds ws) ≡ true
fetched_wanted ds [] = refl
fetched_wanted ds (w ∷ ws) =
    all_append (is_wanted (w ∷ ws)) (opened w.id (tree_of ds w.id) w.revs) (fetched ds ws)
    (opened_wanted w ws (tree_of ds w.id))
    (all_weaker (is_wanted ws) (is_wanted (w ∷ ws)) (λ d k. or_right _ _ k) (fetched ds ws) (fetched_wanted ds ws))

-- ---- any two documents of a parcel differ in id or newest revision

heads : (m : FinMap rev_cmp RevId) (n k : ℕ) (a b : RevId) → same_head (walk m n a) (walk m k b) ≡ eq_by_cmp rev_cmp a b
heads m zero zero a b = refl
heads m zero (suc k) a b = refl
heads m (suc n) zero a b = refl
heads m (suc n) (suc k) a b = refl

apart_in : (id : Id) (t : TreeValue) (x : RevId) (ys : List RevId) → list_any (eq_by_cmp rev_cmp x) ys ≡ false → list_any (same_revision (leaf_document id t x)) (map (leaf_document id t) ys) ≡ false
apart_in id t x [] h = h
apart_in id t x (y ∷ ys) h =
    let parts = or_parts (eq_by_cmp rev_cmp x y) (list_any (eq_by_cmp rev_cmp x) ys) h in
    let here : same_revision (leaf_document id t x) (leaf_document id t y) ≡ false = ap (λ b. b && same_head (ancestors t x) (ancestors t y)) (id_same id) ∙ heads t.parents x.generation y.generation x y ∙ parts.0 in
    ap (λ b. b || list_any (same_revision (leaf_document id t x)) (map (leaf_document id t) ys)) here ∙ apart_in id t x ys parts.1

each_opened : (id : Id) (t : TreeValue) (xs : List RevId) → EachOnce (eq_by_cmp rev_cmp) xs → EachOnce same_revision (map (leaf_document id t) xs)
each_opened id t [] h = tt
each_opened id t (x ∷ xs) h = (apart_in id t x xs h.0, each_opened id t xs h.1)

-- If document d has an id other than `id`, `same_revision` is false for d and every leaf of document `id`.
apart_from : (d : Document) (id : Id) (t : TreeValue) (ys : List RevId) → bytes_eq d.id id ≡ false → list_any (same_revision d) (map (leaf_document id t) ys) ≡ false
apart_from d id t [] h = refl
apart_from d id t (y ∷ ys) h = ap (λ b. b || list_any (same_revision d) (map (leaf_document id t) ys)) (and_left _ (same_head d.ancestry (ancestors t y)) h) ∙ apart_from d id t ys h

apart_from_all : (ds : List DocumentValue) (d : Document) (ws : List WantedValue) → list_any (bytes_eq d.id) (map (λ w. w.id) ws) ≡ false → list_any (same_revision d) (fetched ds ws) ≡ false
apart_from_all ds d [] h = refl
apart_from_all ds d (w ∷ ws) h =
    let parts = or_parts (bytes_eq d.id w.id) (list_any (bytes_eq d.id) (map (λ w. w.id) ws)) h in
    none_append (same_revision d) (opened w.id (tree_of ds w.id) w.revs) (fetched ds ws) (apart_from d w.id (tree_of ds w.id) (leaves_above (tree_of ds w.id) w.revs) parts.0) (apart_from_all ds d ws parts.1)

all_apart : (ds : List DocumentValue) (id : Id) (t : TreeValue) (xs : List RevId) (ws : List WantedValue) → list_any (bytes_eq id) (map (λ w. w.id) ws) ≡ false → AllByRecursion (λ d. list_any (same_revision d) (fetched ds ws) ≡ false) (map (leaf_document id t) xs)
all_apart ds id t [] ws h = tt
all_apart ds id t (x ∷ xs) ws h = (apart_from_all ds (leaf_document id t x) ws h, all_apart ds id t xs ws h)

each_fetched : (ds : List DocumentValue) (ws : List WantedValue) → EachOnce bytes_eq (map (λ w. w.id) ws) → EachOnce same_revision (fetched ds ws)
each_fetched ds [] h = tt
each_fetched ds (w ∷ ws) h =
    let t = tree_of ds w.id in
    each_append same_revision (opened w.id t w.revs) (fetched ds ws)
    (each_opened w.id t (leaves_above t w.revs) (each_filter (eq_by_cmp rev_cmp) (λ leaf. list_any (λ r. is_among r (ancestors t leaf)) w.revs) (leaves t) (EachOnce-leaves t)))
    (each_fetched ds ws h.1)
    (all_apart ds w.id t (leaves_above t w.revs) ws h.0)

-- The parcel that `open_revs` returns satisfies the invariant of parcels.
pub IsParcel-open_revs : (db : DatabaseValue) (a : AskedValue) → LawfulDatabase db → IsAsked a → IsParcel (open_revs db a)
IsParcel-open_revs db a law asked = record {
  asked = asked;
  answered = all_answered db law a.docs;
  wanted = fetched_wanted db.docs a.docs;
  distinct = each_fetched db.docs a.docs asked.distinct;
}
