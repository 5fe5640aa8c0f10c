-- The tree that nodes and their origins represent.
use Rattle.proof_prelude.proofs.{◌≡◌, ℕ, zero, suc, ◌+◌, ◌<◌, ◌≤◌, List, [], ◌∷◌, map, length, Option, Some, None, true, false, ◌||◌, ◌&&◌, cond, not, is_some, sym, ap, ◌∙◌, refl, arith, false≢true, eq_by_cmp, option_map, option_or, slice_get, slice_get-get_or, slice_get_within, same_Some, get, from_entries, get-from_entries, same_map, len, len-insert, len-empty}
use Rattle.std.specs.FinMap.{find}
use Rattle.rev_core.specs.{RevId, rev_cmp, rev_cmp_total, rev_cmp_exact, is_among, rev_tie_self}
use Rattle.rev_tree.specs.{ContentValue, TreeValue, IsTree, has, joined, merged, get-joined, has-merged, Distinct, IsLinked, IsStored, NodeValue, Origin, OriginsValue, labelled, leaves, no_origin, origin_at, place_of, places_from, revs_in, same_leaves, shown, tree_of}
use Rattle.rev_tree.proofs.Places.{none_of, place_at, place_known, place_none, rev_at_place}
use Rattle.rev_tree.proofs.Lookups.{Shows, parent_shown}
use Rattle.rev_tree.proofs.Linking.{length-revs_in}
use Rattle.rev_tree.proofs.Views.{has-tree_of}

-- a list of entries whose values are computed from those of another list
find_mapped : (f : ℕ → Origin) (q : RevId) (es : List (RevId × ℕ)) → find rev_cmp q (map (λ p. (p.0, f p.1)) es) ≡ option_map f (find rev_cmp q es)
find_mapped f q [] = refl
find_mapped f q (e ∷ es) =
    elim (eq_by_cmp rev_cmp q e.0) as (λ b. cond b (Some (f e.1)) (find rev_cmp q (map (λ p. (p.0, f p.1)) es)) ≡ option_map f (cond b (Some e.1) (find rev_cmp q es))) [
      | true ↦ refl
      | false ↦ find_mapped f q es
    ]

pub get-labelled : (nodes : List NodeValue) (os : OriginsValue) (q : RevId) → get (shown nodes os).origins q ≡ option_map (origin_at os) (place_of nodes q)
get-labelled nodes os q = get-from_entries rev_cmp_total (labelled os nodes) q ∙ find_mapped (origin_at os) q (places_from 0 (revs_in nodes))

is_some-map : {A B : Type 0} (f : A → B) (o : Option A) → is_some (option_map f o) ≡ is_some o
is_some-map f None = refl
is_some-map f (Some x) = refl

has-shown : (nodes : List NodeValue) (os : OriginsValue) → IsLinked nodes → (q : RevId) → has (tree_of nodes) q ≡ has (shown nodes os) q
has-shown nodes os linked q =
    has-tree_of nodes linked.once q ∙ sym (place_none nodes q 0) ∙ sym (is_some-map (origin_at os) (place_of nodes q)) ∙ ap is_some (sym (get-labelled nodes os q))

pub shows : (nodes : List NodeValue) (os : OriginsValue) (t : TreeValue) → IsLinked nodes → shown nodes os ≡ t → Shows nodes t
shows nodes os t linked view = record {
  has = λ q. has-shown nodes os linked q ∙ ap (λ u. has u q) view;
  parents = ap (λ (u : TreeValue). u.parents) view;
  contents = ap (λ (u : TreeValue). u.contents) view;
}

pub origin_is : (nodes : List NodeValue) (os : OriginsValue) (t : TreeValue) (q : RevId) (o : Option ℕ) → shown nodes os ≡ t → place_of nodes q ≡ o → get t.origins q ≡ option_map (origin_at os) o
origin_is nodes os t q o view is = ap (λ (u : TreeValue). get u.origins q) (sym view) ∙ get-labelled nodes os q ∙ ap (option_map (origin_at os)) is

-- a tree that shows a list of nodes is a tree if the nodes represent one
pub IsTree-shows : (nodes : List NodeValue) (t : TreeValue) → Shows nodes t → IsTree (tree_of nodes) → IsTree t
IsTree-shows nodes t view tree =
    let edge = λ (c p : RevId) (h : get t.parents c ≡ Some p). ap (λ m. get m c) view.parents ∙ h in
    record {
      revs = λ r h. tree.revs r (view.has r ∙ h);
      child = λ c p h. sym (view.has c) ∙ tree.child c p (edge c p h);
      parent = λ c p h. sym (view.has p) ∙ tree.parent c p (edge c p h);
      falls = λ c p h. tree.falls c p (edge c p h);
      content = λ r h. sym (view.has r) ∙ tree.content r (ap (λ m. is_some (get m r)) view.contents ∙ h);
      leaf = λ r h. ap (λ m. is_some (get m r)) (sym view.contents) ∙ tree.leaf r ((λ i. view.has r i && not (parent_shown nodes t view r i)) ∙ h);
    }

-- the tree of a stored form
pub stored_shows : (nodes : List NodeValue) (os : OriginsValue) (best : ℕ) (t : TreeValue) → IsStored nodes os best → shown nodes os ≡ t → Shows nodes t
stored_shows nodes os best t stored view = shows nodes os t stored.linked view

pub stored_tree : (nodes : List NodeValue) (os : OriginsValue) (best : ℕ) (t : TreeValue) → IsStored nodes os best → shown nodes os ≡ t → IsTree t
stored_tree nodes os best t stored view = IsTree-shows nodes t (shows nodes os t stored.linked view) stored.led.tree

pub leaves_shown : (nodes : List NodeValue) (t : TreeValue) → Shows nodes t → leaves (tree_of nodes) ≡ leaves t
leaves_shown nodes t view =
    same_leaves (tree_of nodes) t (record { revs = view.has; edges = view.parents; contents = λ leaf h. ap (λ m. get m leaf) view.contents })

-- ---- the number of revisions

abbrev labels_from : (f : ℕ → Origin) → ℕ → List RevId → List (RevId × Origin)
labels_from f i revs = map (λ p. (p.0, f p.1)) (places_from i revs)

is_some-labels : (f : ℕ → Origin) (q : RevId) (i : ℕ) (revs : List RevId) → is_some (find rev_cmp q (labels_from f i revs)) ≡ is_among q revs
is_some-labels f q i [] = refl
is_some-labels f q i (r ∷ revs) =
    elim (eq_by_cmp rev_cmp q r) as (λ b. is_some (cond b (Some (f i)) (find rev_cmp q (labels_from f (i + 1) revs))) ≡ (b || is_among q revs)) [
      | true ↦ refl
      | false ↦ is_some-labels f q (i + 1) revs
    ]

length-labels : (f : ℕ → Origin) (i : ℕ) (revs : List RevId) → Distinct revs → len (from_entries {R = rev_cmp} (labels_from f i revs)) ≡ length revs
length-labels f i [] once = len-empty rev_cmp Origin
length-labels f i (r ∷ revs) once =
    let m = from_entries {R = rev_cmp} (labels_from f (i + 1) revs) in
    let none = none_of (get m r) (ap is_some (get-from_entries rev_cmp_total (labels_from f (i + 1) revs) r) ∙ is_some-labels f r (i + 1) revs ∙ once.0) in
    len-insert rev_cmp_total m r (f i)
    ∙ ap (λ (o : Option Origin). cond (is_some o) (len m) (len m + 1)) none
    ∙ ap (λ k. k + 1) (length-labels f (i + 1) revs once.1) ∙ omega arith

pub length-shown : (nodes : List NodeValue) (os : OriginsValue) (t : TreeValue) → IsLinked nodes → shown nodes os ≡ t → len t.origins ≡ length nodes
length-shown nodes os t linked view =
    ap (λ (u : TreeValue). len u.origins) (sym view) ∙ length-labels (origin_at os) 0 (revs_in nodes) linked.once ∙ length-revs_in nodes

-- ---- other origins, and more nodes

at_place : (nodes : List NodeValue) (q : RevId) (i : ℕ) → place_of nodes q ≡ Some i → i < length nodes
at_place nodes q i h = (place_known nodes q i h).within

same_at : (f g : ℕ → Origin) (o : Option ℕ) → ((i : ℕ) → o ≡ Some i → f i ≡ g i) → option_map f o ≡ option_map g o
same_at f g None h = refl
same_at f g (Some i) h = ap Some (h i refl)

-- nodes with the same origins represent the same tree
pub same_shown : (nodes : List NodeValue) (os ps : OriginsValue) → ((i : ℕ) → i < length nodes → origin_at ps i ≡ origin_at os i) → shown nodes ps ≡ shown nodes os
same_shown nodes os ps same =
    let origins =
    same_map rev_cmp_total rev_cmp_exact (shown nodes ps).origins (shown nodes os).origins (λ q.
    get-labelled nodes ps q ∙ same_at (origin_at ps) (origin_at os) (place_of nodes q) (λ i h. same i (at_place nodes q i h)) ∙ sym (get-labelled nodes os q)) in
    λ j. record { origins = origins j; parents = (tree_of nodes).parents; contents = (tree_of nodes).contents }

-- the node at a place
node_there : (nodes : List NodeValue) (i : ℕ) → i < length nodes → (n : NodeValue) × (slice_get nodes i ≡ Some n)
node_there [] i low = absurd (omega (arith, low))
node_there (n ∷ nodes) zero low = (n, refl)
node_there (n ∷ nodes) (suc i) low = node_there nodes i (omega (arith, low))

-- the place of the revision at a place
place_of_rev : (nodes : List NodeValue) → IsLinked nodes → (i : ℕ) (q : RevId) → slice_get (revs_in nodes) i ≡ Some q → place_of nodes q ≡ Some i
place_of_rev nodes linked i q h =
    let n = node_there nodes i (omega (arith, length-revs_in nodes, slice_get_within (revs_in nodes) i q h)) in
    let same = same_Some n.0.rev q (sym (rev_at_place nodes i n.0 n.1) ∙ h) in
    place_at nodes linked.once i n.0 q n.1 (ap (eq_by_cmp rev_cmp q) same ∙ rev_tie_self q)

pub has-place : (nodes : List NodeValue) → IsLinked nodes → (q : RevId) → has (tree_of nodes) q ≡ is_some (place_of nodes q)
has-place nodes linked q = has-tree_of nodes linked.once q ∙ sym (place_none nodes q 0)

pub find_same : (q : RevId) (o : Origin) (revs : List RevId) → find rev_cmp q (map (λ r. (r, o)) revs) ≡ cond (is_among q revs) (Some o) None
find_same q o [] = refl
find_same q o (r ∷ revs) =
    elim (eq_by_cmp rev_cmp q r) as (λ c. cond c (Some o) (find rev_cmp q (map (λ r. (r, o)) revs)) ≡ cond (c || is_among q revs) (Some o) None) [
      | true ↦ refl
      | false ↦ find_same q o revs
    ]

not_lt_le : (i n : ℕ) → (i < n → ⊥) → n ≤ i
not_lt_le i zero h = omega arith
not_lt_le zero (suc n) h = absurd (h (omega arith))
not_lt_le (suc i) (suc n) h = let low = not_lt_le i n (λ k. h (omega (arith, k))) in omega (arith, low)

-- a list that keeps the elements of another at their places is not shorter
pub kept_longer : (xs ys : List RevId) → ((i : ℕ) (r : RevId) → slice_get xs i ≡ Some r → slice_get ys i ≡ Some r) → length xs ≤ length ys
kept_longer [] ys kept = omega arith
kept_longer (x ∷ xs) ys kept = not_lt_le (length ys) (length (x ∷ xs)) (λ low.
    let there = kept (length ys) _ (slice_get-get_or (x ∷ xs) (length ys) x low) in
    omega (arith, slice_get_within ys (length ys) _ there))

module _ (nodes more : List NodeValue) (os ps : OriginsValue) (revs : List RevId) (b : ContentValue) (o : Origin)
    (linked : IsLinked nodes) (also : IsLinked more) (tree : tree_of more ≡ merged (tree_of nodes) revs b no_origin)
    (kept : (i : ℕ) (r : RevId) → slice_get (revs_in nodes) i ≡ Some r → slice_get (revs_in more) i ≡ Some r)
    (old : (i : ℕ) → i < length nodes → origin_at ps i ≡ origin_at os i)
    (new : (i : ℕ) → length nodes ≤ i → i < length more → origin_at ps i ≡ o) where
  -- a revision keeps its place
  stays : (q : RevId) (i : ℕ) → place_of nodes q ≡ Some i → place_of more q ≡ Some i
  stays q i h =
      let f = place_known nodes q i h in
      place_of_rev more also i q (kept i q (rev_at_place nodes i f.node f.at ∙ ap Some f.rev))

  -- the place of a new revision is after those of the old ones
  behind : (q : RevId) (i : ℕ) → place_of nodes q ≡ None → place_of more q ≡ Some i → length nodes ≤ i
  behind q i none h = not_lt_le i (length nodes) (λ low.
      let n = node_there nodes i low in
      let f = place_known more q i h in
      let same = same_Some n.0.rev q (sym (kept i n.0.rev (rev_at_place nodes i n.0 n.1)) ∙ rev_at_place more i f.node f.at ∙ ap Some f.rev) in
      false≢true (ap is_some (sym none) ∙ ap is_some (place_of_rev nodes linked i q (rev_at_place nodes i n.0 n.1 ∙ ap Some same))))

  among_new : (q : RevId) → place_of nodes q ≡ None → is_among q revs ≡ is_some (place_of more q)
  among_new q none =
      ap (λ c. c || is_among q revs) (sym (has-place nodes linked q ∙ ap is_some none))
      ∙ sym (has-merged (tree_of nodes) revs b no_origin q) ∙ ap (λ u. has u q) (sym tree) ∙ has-place more also q

  by_new : (q : RevId) → place_of nodes q ≡ None → (p : Option ℕ) → place_of more q ≡ p → option_map (origin_at ps) p ≡ find rev_cmp q (map (λ r. (r, o)) revs)
  by_new q none None e = sym (find_same q o revs ∙ ap (λ c. cond c (Some o) None) (among_new q none ∙ ap is_some e))
  by_new q none (Some i) e =
      ap Some (new i (behind q i none e) (at_place more q i e))
      ∙ sym (find_same q o revs ∙ ap (λ c. cond c (Some o) None) (among_new q none ∙ ap is_some e))

  by_place : (q : RevId) (p : Option ℕ) → place_of nodes q ≡ p → option_map (origin_at ps) (place_of more q) ≡ option_or (option_map (origin_at os) p) (find rev_cmp q (map (λ r. (r, o)) revs))
  by_place q (Some i) h = ap (option_map (origin_at ps)) (stays q i h) ∙ ap Some (old i (at_place nodes q i h))
  by_place q None h = by_new q h (place_of more q) refl

  pub grown : shown more ps ≡ merged (shown nodes os) revs b o
  grown =
      let origins =
      same_map rev_cmp_total rev_cmp_exact (shown more ps).origins (joined (shown nodes os).origins (map (λ r. (r, o)) revs)) (λ q.
      get-labelled more ps q ∙ by_place q (place_of nodes q) refl
      ∙ ap (λ (x : Option Origin). option_or x (find rev_cmp q (map (λ r. (r, o)) revs))) (sym (get-labelled nodes os q))
      ∙ sym (get-joined (shown nodes os).origins (map (λ r. (r, o)) revs) q)) in
      λ j. record { origins = origins j; parents = (tree j).parents; contents = (tree j).contents }
