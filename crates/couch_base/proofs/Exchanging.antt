-- Requesting and fetching, one document at a time.
use Rattle.proof_prelude.proofs.{◌≡◌, ℕ, ◌+◌, ◌<◌, ◌≤◌, true, List, [], ◌∷◌, ◌++◌, map, filter, None, drop, length, get_or, sym, ap, ◌∙◌, refl, append_assoc, length-append, arith, and_parts, drop_more, drop_all, list_any, list_all, option_map, get-empty, append-nil}
use Rattle.rev_core.specs.{RevId, rev_cmp, is_among}
use Rattle.rev_tree.specs.{ContentValue, TreeValue, is_leaf, leaves, leaves_above, ancestors, missing, no_revisions, any_filter, is_among-leaves}
use Rattle.doc_json.specs.Document.{Document}
use Rattle.couch_base.specs.{all_members, Id, DocumentValue, tree_of, WantedValue, document_in, leaf_document, opened, fetched, gone_of, leaves-no_revisions}

-- ---- a document that does not exist

pub missing-no_revisions : (revs : List RevId) → missing no_revisions revs ≡ revs
missing-no_revisions [] = refl
missing-no_revisions (r ∷ revs) =
    rw (get-empty rev_cmp r) (ap (λ l. r ∷ l) (missing-no_revisions revs))

pub opened-no_revisions : (id : Id) (revs : List RevId) → opened id no_revisions revs ≡ []
opened-no_revisions id revs = ap (λ (ls : List RevId). map (leaf_document id no_revisions) (filter (λ leaf. list_any (λ r. is_among r (ancestors no_revisions leaf)) revs) ls)) leaves-no_revisions

pub document_in-no_revisions : (id : Id) (r : RevId) → document_in id no_revisions r ≡ None
document_in-no_revisions id r = ap (option_map (λ (c : ContentValue). let d : Document = record { id = id; ancestry = ancestors no_revisions r; deleted = c.deleted; body = c.body } in d)) (get-empty rev_cmp r)

-- ---- leaves

-- the leaves above some revisions are leaves
pub all_leaves : (t : TreeValue) (revs : List RevId) → list_all (is_leaf t) (leaves_above t revs) ≡ true
all_leaves t revs =
    all_members (is_leaf t) (leaves_above t revs)
    (λ r m. sym (is_among-leaves t r) ∙ (and_parts _ _ (sym (any_filter (λ leaf. list_any (λ x. is_among x (ancestors t leaf)) revs) r (leaves t)) ∙ m)).0)

-- ---- one step of a loop

next_of : {X : Type 0} (xs : List X) (i : ℕ) (x : X) → i < length xs → x ≡ get_or xs i x → drop i xs ≡ x ∷ drop (i + 1) xs
next_of xs i x h is = drop_more xs i x h ∙ ap (λ y. y ∷ drop (i + 1) xs) (sym is)

pub fetched_next : (ds : List DocumentValue) (done all : List Document) (ws : List WantedValue) (i : ℕ) (w : WantedValue) → i < length ws → w ≡ get_or ws i w
    → done ++ fetched ds (drop i ws) ≡ all → (done ++ opened w.id (tree_of ds w.id) w.revs) ++ fetched ds (drop (i + 1) ws) ≡ all
fetched_next ds done all ws i w h is so =
    append_assoc done (opened w.id (tree_of ds w.id) w.revs) (fetched ds (drop (i + 1) ws))
    ∙ ap (λ l. done ++ l) (sym (ap (fetched ds) (next_of ws i w h is)))
    ∙ so

pub gone_next : (ds : List DocumentValue) (done all : List (Id × RevId)) (ws : List WantedValue) (i : ℕ) (w : WantedValue) → i < length ws → w ≡ get_or ws i w
    → done ++ gone_of ds (drop i ws) ≡ all → (done ++ map (λ r. (w.id, r)) (missing (tree_of ds w.id) w.revs)) ++ gone_of ds (drop (i + 1) ws) ≡ all
gone_next ds done all ws i w h is so =
    append_assoc done (map (λ r. (w.id, r)) (missing (tree_of ds w.id) w.revs)) (gone_of ds (drop (i + 1) ws))
    ∙ ap (λ l. done ++ l) (sym (ap (gone_of ds) (next_of ws i w h is)))
    ∙ so

-- at the end nothing is left
pub end_of : {X Y : Type 0} (f : List X → List Y) → f [] ≡ [] → (done all : List Y) (xs : List X) (i : ℕ) → length xs ≤ i → done ++ f (drop i xs) ≡ all → done ≡ all
end_of f none done all xs i h so = sym (append-nil done) ∙ ap (λ l. done ++ l) (sym none ∙ ap f (sym (drop_all i xs h))) ∙ so

-- ---- counting

pub counted_next : (ds : List DocumentValue) (done all : ℕ) (ws : List WantedValue) (i : ℕ) (w : WantedValue) → i < length ws → w ≡ get_or ws i w
    → done + length (fetched ds (drop i ws)) ≡ all → (done + length (opened w.id (tree_of ds w.id) w.revs)) + length (fetched ds (drop (i + 1) ws)) ≡ all
counted_next ds done all ws i w h is so =
    let split : length (fetched ds (drop i ws)) ≡ length (opened w.id (tree_of ds w.id) w.revs) + length (fetched ds (drop (i + 1) ws)) =
    ap (λ l. length (fetched ds l)) (next_of ws i w h is) ∙ length-append (opened w.id (tree_of ds w.id) w.revs) (fetched ds (drop (i + 1) ws)) in
    omega (arith, split, so)

pub counted_end : (ds : List DocumentValue) (done all : ℕ) (ws : List WantedValue) (i : ℕ) → length ws ≤ i → done + length (fetched ds (drop i ws)) ≡ all → done ≡ all
counted_end ds done all ws i h so =
    let none : length (fetched ds (drop i ws)) ≡ 0 = ap (λ l. length (fetched ds l)) (drop_all i ws h) in
    omega (arith, none, so)
