-- Nodes that are added, filled and linked.
use Rattle.proof_prelude.proofs.{length-map, ◌≡◌, ℕ, zero, suc, ◌<◌, ◌⊎◌, List, [], ◌∷◌, ◌++◌, length, set, slice_get, Option, Some, None, Bool, true, false, ◌||◌, ◌&&◌, cond, is_some, IfSome, sym, ap, ◌∙◌, subst, refl, inl, inr, arith, length-append, length-set, false≢true, or_right, or_cases, eq_by_cmp, option_or, get, from_entries, same_Some}
use Rattle.std.specs.FinMap.{find}
use Rattle.std.specs.Cmp.{both_ways}
use Rattle.rev_core.specs.{RevId, rev_cmp, rev_tie_is, rev_tie_self, is_among}
use Rattle.rev_tree.specs.{ContentValue, TreeValue, joined, is_parent, get-joined, get-joined_known, some_or, same_joined, child_of_parent, parent_from_child, with_rev, with_edge, with_content, revs_in, rev_at, node_of, Distinct, entries_of, parent_in, place_of, tree_of, IsNode, IsLinked, NodeValue, new_node, no_origin}
use Rattle.rev_tree.proofs.Places.{is_some-node_of, node_rev, node_at, among_at, rev_at_place, node_of-push, place_unknown, revs_in-push, distinct_push, slice_get-append}
use Rattle.rev_tree.proofs.Setting.{revs_in-set, node_of-set}
use Rattle.rev_tree.proofs.Views.{part, get-origins, get-parents, get-contents, joined_entries, same_entries}

-- ---- a part of a changed node

cond_part : {X : Type 0} (f : NodeValue → Option X) (b : Bool) (m : NodeValue) (o : Option NodeValue) → part f (cond b (Some m) o) ≡ cond b (f m) (part f o)
cond_part f true m o = refl
cond_part f false m o = refl

module _ {X : Type 0} (f : NodeValue → Option X) (nodes : List NodeValue) (d : Distinct (revs_in nodes)) (k : ℕ) (n m : NodeValue) (at : slice_get nodes k ≡ Some n) (same : m.rev ≡ n.rev) where
  still_distinct : Distinct (revs_in (set nodes k m))
  still_distinct = subst Distinct (sym (revs_in-set nodes k n m at same)) d

  old_part : (q : RevId) → eq_by_cmp rev_cmp q n.rev ≡ true → part f (node_of nodes q) ≡ f n
  old_part q tie = ap (λ r. part f (node_of nodes r)) (rev_tie_is q n.rev tie) ∙ ap (part f) (node_at nodes d k n at)

  set_part : (q : RevId) → part f (node_of (set nodes k m) q) ≡ cond (eq_by_cmp rev_cmp q n.rev) (f m) (part f (node_of nodes q))
  set_part q = ap (part f) (node_of-set nodes d k n m at same q) ∙ cond_part f (eq_by_cmp rev_cmp q n.rev) m (node_of nodes q)

  -- a part that is not changed stays
  pub part_kept : f m ≡ f n → from_entries {R = rev_cmp} (entries_of f (set nodes k m)) ≡ from_entries (entries_of f nodes)
  part_kept e = same_entries f f nodes (set nodes k m) d still_distinct (λ q.
      set_part q ∙ elim (eq_by_cmp rev_cmp q n.rev) as (λ b. eq_by_cmp rev_cmp q n.rev ≡ b → cond b (f m) (part f (node_of nodes q)) ≡ part f (node_of nodes q)) [
        | true ↦ λ tie. e ∙ sym (old_part q tie)
        | false ↦ λ _. refl
      ] refl)

  -- a part that was empty and is filled is one more entry
  pub part_filled : (x : X) → f n ≡ None → f m ≡ Some x → from_entries {R = rev_cmp} (entries_of f (set nodes k m)) ≡ joined (from_entries (entries_of f nodes)) ((n.rev, x) ∷ [])
  part_filled x none some = joined_entries f f nodes (set nodes k m) ((n.rev, x) ∷ []) d still_distinct (λ q.
      set_part q ∙ elim (eq_by_cmp rev_cmp q n.rev) as (λ b. eq_by_cmp rev_cmp q n.rev ≡ b → cond b (f m) (part f (node_of nodes q)) ≡ option_or (part f (node_of nodes q)) (cond b (Some x) None)) [
        | true ↦ λ tie. some ∙ sym (ap (λ (o : Option X). option_or o (Some x)) (old_part q tie ∙ none))
        | false ↦ λ _. or_none (part f (node_of nodes q))
      ] refl)
    where
      or_none : (o : Option X) → o ≡ option_or o None
      or_none None = refl
      or_none (Some y) = refl

-- ---- the invariant of each node

pub record IsMarked (nodes : List NodeValue) (mark : RevId → Bool) : Type 0 where
  pub once : Distinct (revs_in nodes)
  pub within : (q : RevId) (n : NodeValue) → node_of nodes q ≡ Some n → IfSome n.parent (λ i. i < length nodes)
  pub child : (q : RevId) (n : NodeValue) → node_of nodes q ≡ Some n → n.has_child ≡ mark n.rev

pub marked_from_linked : (nodes : List NodeValue) → IsLinked nodes → IsMarked nodes (is_parent (tree_of nodes))
marked_from_linked nodes h = record { once = h.once; within = λ q n e. (h.each q n e).parent; child = λ q n e. (h.each q n e).child }

pub linked_from_marked : (nodes : List NodeValue) (mark : RevId → Bool) → ((q : RevId) → mark q ≡ is_parent (tree_of nodes) q) → IsMarked nodes mark → IsLinked nodes
linked_from_marked nodes mark is h = record { once = h.once; each = λ q n e. record { parent = h.within q n e; child = h.child q n e ∙ is n.rev } }

set_cases : (b : Bool) (m : NodeValue) (o : Option NodeValue) (x : NodeValue) → cond b (Some m) o ≡ Some x → (x ≡ m) ⊎ ((b ≡ false) × (o ≡ Some x))
set_cases true m o x h = inl (sym (same_Some m x h))
set_cases false m o x h = inr (refl, h)

pub marked_set : (nodes : List NodeValue) (mark after : RevId → Bool) (k : ℕ) (n m : NodeValue) → IsMarked nodes mark → slice_get nodes k ≡ Some n → m.rev ≡ n.rev
    → IfSome m.parent (λ i. i < length nodes) → m.has_child ≡ after m.rev
    → ((q : RevId) → eq_by_cmp rev_cmp q n.rev ≡ false → mark q ≡ after q) → IsMarked (set nodes k m) after
marked_set nodes mark after k n m h at same low told others = record {
  once = subst Distinct (sym (revs_in-set nodes k n m at same)) h.once;
  within = λ q x e.
      let long : length (set nodes k m) ≡ length nodes = length-set nodes k m in
      elim (set_cases (eq_by_cmp rev_cmp q n.rev) m (node_of nodes q) x (sym (node_of-set nodes h.once k n m at same q) ∙ e)) [
        | inl is ↦ subst (λ (y : NodeValue). IfSome y.parent (λ i. i < length (set nodes k m))) (sym is) (subst (λ l. IfSome m.parent (λ i. i < l)) (sym long) low)
        | inr old ↦ subst (λ l. IfSome x.parent (λ i. i < l)) (sym long) (h.within q x old.1)
      ];
  child = λ q x e.
      elim (set_cases (eq_by_cmp rev_cmp q n.rev) m (node_of nodes q) x (sym (node_of-set nodes h.once k n m at same q) ∙ e)) [
        | inl is ↦ ap (λ (y : NodeValue). y.has_child) is ∙ told ∙ ap (λ (y : NodeValue). after y.rev) (sym is)
        | inr old ↦ h.child q x old.1 ∙ others x.rev (ap (λ r. eq_by_cmp rev_cmp r n.rev) (node_rev nodes q x old.1) ∙ old.0)
      ];
}

-- ---- the content of a node

abbrev pub with_body : NodeValue → ContentValue → NodeValue
with_body n b = record { rev = n.rev; parent = n.parent; content = Some b; has_child = n.has_child }

module _ (nodes : List NodeValue) (k : ℕ) (n : NodeValue) (linked : IsLinked nodes) (at : slice_get nodes k ≡ Some n) where
  same_node : node_of nodes n.rev ≡ Some n
  same_node = node_at nodes linked.once k n at

  rev_is : (r : RevId) → slice_get (revs_in nodes) k ≡ Some r → n.rev ≡ r
  rev_is r h = same_Some n.rev r (sym (rev_at_place nodes k n at) ∙ h)

  module _ (b : ContentValue) where
    pub revs_given : revs_in (set nodes k (with_body n b)) ≡ revs_in nodes
    revs_given = revs_in-set nodes k n (with_body n b) at refl

    given_parents : from_entries {R = rev_cmp} (entries_of (parent_in (revs_in (set nodes k (with_body n b)))) (set nodes k (with_body n b))) ≡ (tree_of nodes).parents
    given_parents =
        ap (λ revs. from_entries {R = rev_cmp} (entries_of (parent_in revs) (set nodes k (with_body n b)))) revs_given
        ∙ part_kept (parent_in (revs_in nodes)) nodes linked.once k n (with_body n b) at refl refl

    pub tree_given : n.content ≡ None → (r : RevId) → slice_get (revs_in nodes) k ≡ Some r → tree_of (set nodes k (with_body n b)) ≡ with_content (tree_of nodes) r b
    tree_given none r is =
        let os = part_kept (λ (x : NodeValue). Some no_origin) nodes linked.once k n (with_body n b) at refl refl in
        let cs = part_filled (λ (x : NodeValue). x.content) nodes linked.once k n (with_body n b) at refl b none refl ∙ ap (λ q. joined (tree_of nodes).contents ((q, b) ∷ [])) (rev_is r is) in
        λ i. record { origins = os i; parents = given_parents i; contents = cs i }

    pub linked_given : IsLinked (set nodes k (with_body n b))
    linked_given =
        linked_from_marked (set nodes k (with_body n b)) (is_parent (tree_of nodes)) (λ q. same_parent q)
        (marked_set nodes (is_parent (tree_of nodes)) (is_parent (tree_of nodes)) k n (with_body n b) (marked_from_linked nodes linked) at refl
        (linked.each n.rev n same_node).parent (linked.each n.rev n same_node).child (λ q h. refl))
      where
        same_parent : (q : RevId) → is_parent (tree_of nodes) q ≡ is_parent (tree_of (set nodes k (with_body n b))) q
        same_parent q = λ i. is_parent (record { origins = (tree_of nodes).origins; parents = sym given_parents i; contents = (tree_of nodes).contents }) q

  -- a node that has a content keeps it
  pub tree_has : (b : ContentValue) → is_some n.content ≡ true → (r : RevId) → slice_get (revs_in nodes) k ≡ Some r → tree_of nodes ≡ with_content (tree_of nodes) r b
  tree_has b some r is =
      let there = ap is_some (get-contents nodes linked.once r ∙ ap (λ q. part (λ (x : NodeValue). x.content) (node_of nodes q)) (sym (rev_is r is)) ∙ ap (part (λ (x : NodeValue). x.content)) same_node) ∙ some in
      let cs = same_joined (tree_of nodes).contents ((r, b) ∷ []) (ap (λ t. t && true) there) in
      λ i. record { origins = (tree_of nodes).origins; parents = (tree_of nodes).parents; contents = sym cs i }

-- the effect of giving a content to the node at an index
pub record IsGiven (nodes after : List NodeValue) (k : ℕ) (b : ContentValue) : Type 0 where
  pub revs : revs_in after ≡ revs_in nodes
  pub linked : IsLinked after
  pub tree : (r : RevId) → slice_get (revs_in nodes) k ≡ Some r → tree_of after ≡ with_content (tree_of nodes) r b

pub given : (nodes : List NodeValue) (k : ℕ) (n m : NodeValue) (b : ContentValue) → IsLinked nodes → slice_get nodes k ≡ Some n → n.content ≡ None → m ≡ with_body n b → IsGiven nodes (set nodes k m) k b
given nodes k n m b linked at none is = subst (λ x. IsGiven nodes (set nodes k x) k b) (sym is) (record {
  revs = revs_given nodes k n linked at b;
  linked = linked_given nodes k n linked at b;
  tree = tree_given nodes k n linked at b none;
})

-- ---- an edge

abbrev pub with_parent : NodeValue → ℕ → NodeValue
with_parent n j = record { rev = n.rev; parent = Some j; content = n.content; has_child = n.has_child }

abbrev pub with_mark : NodeValue → NodeValue
with_mark n = record { rev = n.rev; parent = n.parent; content = n.content; has_child = true }

-- which revisions are parents after a new edge
pub is_parent-edge : (t : TreeValue) (c p : RevId) → get t.parents c ≡ None → (q : RevId) → (is_parent t q || eq_by_cmp rev_cmp q p) ≡ is_parent (with_edge t c p) q
is_parent-edge t c p none q =
    both_ways _ _
    (λ h. elim (or_cases (is_parent t q) (eq_by_cmp rev_cmp q p) h) [
      | inl known ↦ let w = child_of_parent t q known in parent_from_child (with_edge t c p) q w.0 (get-joined_known t.parents ((c, p) ∷ []) w.0 q w.1)
      | inr new ↦ parent_from_child (with_edge t c p) q c
          (get-joined t.parents ((c, p) ∷ []) c ∙ ap (λ (o : Option RevId). option_or o (cond (eq_by_cmp rev_cmp c c) (Some p) None)) none
          ∙ ap (λ b. cond b (Some p) None) (rev_tie_self c) ∙ ap Some (sym (rev_tie_is q p new)))
    ])
    (λ h.
    let w = child_of_parent (with_edge t c p) q h in
    elim (some_or (get t.parents w.0) (find rev_cmp w.0 ((c, p) ∷ [])) q (sym (get-joined t.parents ((c, p) ∷ []) w.0) ∙ w.1)) [
      | inl known ↦ ap (λ b. b || eq_by_cmp rev_cmp q p) (parent_from_child t q w.0 known)
      | inr new ↦ or_right (is_parent t q) _ (only (eq_by_cmp rev_cmp w.0 c) p q new.1)
    ])
  where
    only : (b : Bool) (p q : RevId) → cond b (Some p) None ≡ Some q → eq_by_cmp rev_cmp q p ≡ true
    only true p q h = ap (λ x. eq_by_cmp rev_cmp q x) (same_Some p q h) ∙ rev_tie_self q
    only false p q h = absurd (false≢true (ap is_some h))

or_false : (a b : Bool) → b ≡ false → a ≡ (a || b)
or_false true b h = refl
or_false false b h = sym h

within_known : (revs : List RevId) (o : Option ℕ) → is_some o ≡ true → IfSome o (λ i. i < length revs) → is_some (rev_at revs o) ≡ true
within_known revs None h low = absurd (false≢true h)
within_known revs (Some i) h low = there revs i low
  where
    there : (revs : List RevId) (i : ℕ) → i < length revs → is_some (slice_get revs i) ≡ true
    there [] i h = absurd (omega arith)
    there (r ∷ revs) zero h = refl
    there (r ∷ revs) (suc i) h = there revs i (omega arith)

pub length-revs_in : (nodes : List NodeValue) → length (revs_in nodes) ≡ length nodes
length-revs_in nodes = length-map nodes (λ (n : NodeValue). n.rev)

-- the child n at index k names the index j, and then the node m at j is marked
module _ (nodes : List NodeValue) (k j : ℕ) (n m : NodeValue) (linked : IsLinked nodes) (at : slice_get nodes k ≡ Some n) (low : j < length nodes) (none : n.parent ≡ None)
    (there : slice_get (set nodes k (with_parent n j)) j ≡ Some m) where
  once_named : Distinct (revs_in (set nodes k (with_parent n j)))
  once_named = subst Distinct (sym (revs_in-set nodes k n (with_parent n j) at refl)) linked.once

  pub revs_linked : revs_in (set (set nodes k (with_parent n j)) j (with_mark m)) ≡ revs_in nodes
  revs_linked = revs_in-set (set nodes k (with_parent n j)) j m (with_mark m) there refl ∙ revs_in-set nodes k n (with_parent n j) at refl

  -- a part that neither step changes
  kept_twice : {X : Type 0} (f : NodeValue → Option X) → f (with_parent n j) ≡ f n → f (with_mark m) ≡ f m → from_entries {R = rev_cmp} (entries_of f (set (set nodes k (with_parent n j)) j (with_mark m))) ≡ from_entries (entries_of f nodes)
  kept_twice f e g = part_kept f (set nodes k (with_parent n j)) once_named j m (with_mark m) there refl g ∙ part_kept f nodes linked.once k n (with_parent n j) at refl e

  pub tree_linked : (c p : RevId) → slice_get (revs_in nodes) k ≡ Some c → slice_get (revs_in nodes) j ≡ Some p → tree_of (set (set nodes k (with_parent n j)) j (with_mark m)) ≡ with_edge (tree_of nodes) c p
  tree_linked c p is_child is_new =
      let os = kept_twice (λ (x : NodeValue). Some no_origin) refl refl in
      let cs = kept_twice (λ (x : NodeValue). x.content) refl refl in
      let ps =
      ap (λ revs. from_entries {R = rev_cmp} (entries_of (parent_in revs) (set (set nodes k (with_parent n j)) j (with_mark m)))) revs_linked
      ∙ part_kept (parent_in (revs_in nodes)) (set nodes k (with_parent n j)) once_named j m (with_mark m) there refl refl
      ∙ part_filled (parent_in (revs_in nodes)) nodes linked.once k n (with_parent n j) at refl p (ap (rev_at (revs_in nodes)) none) is_new
      ∙ ap (λ q. joined (tree_of nodes).parents ((q, p) ∷ [])) (rev_is nodes k n linked at c is_child) in
      λ i. record { origins = os i; parents = ps i; contents = cs i }

  no_parent : get (tree_of nodes).parents n.rev ≡ None
  no_parent = get-parents nodes linked.once n.rev ∙ ap (part (parent_in (revs_in nodes))) (same_node nodes k n linked at) ∙ ap (rev_at (revs_in nodes)) none

  pub linked_linked : IsLinked (set (set nodes k (with_parent n j)) j (with_mark m))
  linked_linked =
      let t = tree_of nodes in
      let own = linked.each n.rev n (same_node nodes k n linked at) in
      let first = marked_set nodes (is_parent t) (is_parent t) k n (with_parent n j) (marked_from_linked nodes linked) at refl low own.child (λ q h. refl) in
      let second =
      marked_set (set nodes k (with_parent n j)) (is_parent t) (λ q. is_parent t q || eq_by_cmp rev_cmp q m.rev) j m (with_mark m) first there refl
      (first.within m.rev m (node_at (set nodes k (with_parent n j)) once_named j m there))
      (sym (or_right (is_parent t m.rev) _ (rev_tie_self m.rev)))
      (λ q h. or_false (is_parent t q) (eq_by_cmp rev_cmp q m.rev) h) in
      linked_from_marked (set (set nodes k (with_parent n j)) j (with_mark m)) (λ q. is_parent t q || eq_by_cmp rev_cmp q m.rev)
      (λ q.
      is_parent-edge t n.rev m.rev no_parent q
      ∙ ap (λ u. is_parent u q) (sym (tree_linked n.rev m.rev (rev_at_place nodes k n at) (ap (λ revs. slice_get revs j) (sym (revs_in-set nodes k n (with_parent n j) at refl)) ∙ rev_at_place (set nodes k (with_parent n j)) j m there))))
      second

-- the effect of an edge from the node at one index to the node at another
pub record IsEdged (nodes after : List NodeValue) (k j : ℕ) : Type 0 where
  pub revs : revs_in after ≡ revs_in nodes
  pub linked : IsLinked after
  pub tree : (c p : RevId) → slice_get (revs_in nodes) k ≡ Some c → slice_get (revs_in nodes) j ≡ Some p → tree_of after ≡ with_edge (tree_of nodes) c p

pub edged : (nodes : List NodeValue) (k j : ℕ) (n m child parent : NodeValue) → IsLinked nodes → slice_get nodes k ≡ Some n → j < length nodes → n.parent ≡ None
    → child ≡ with_parent n j → slice_get (set nodes k child) j ≡ Some m → parent ≡ with_mark m → IsEdged nodes (set (set nodes k child) j parent) k j
edged nodes k j n m child parent linked at low none is_child there is_parent =
    let named = subst (λ x. slice_get (set nodes k x) j ≡ Some m) is_child there in
    subst (λ x. IsEdged nodes (set (set nodes k x) j parent) k j) (sym is_child)
    (subst (λ x. IsEdged nodes (set (set nodes k (with_parent n j)) j x) k j) (sym is_parent) (record {
      revs = revs_linked nodes k j n m linked at low none named;
      linked = linked_linked nodes k j n m linked at low none named;
      tree = tree_linked nodes k j n m linked at low none named;
    }))

-- a child that has a parent keeps it
pub tree_named : (nodes : List NodeValue) (k : ℕ) (n : NodeValue) → IsLinked nodes → slice_get nodes k ≡ Some n → is_some n.parent ≡ true → (c p : RevId) → slice_get (revs_in nodes) k ≡ Some c → tree_of nodes ≡ with_edge (tree_of nodes) c p
tree_named nodes k n linked at some c p is =
    let own = linked.each n.rev n (same_node nodes k n linked at) in
    let there =
    ap is_some (get-parents nodes linked.once c ∙ ap (λ q. part (parent_in (revs_in nodes)) (node_of nodes q)) (sym (rev_is nodes k n linked at c is)) ∙ ap (part (parent_in (revs_in nodes))) (same_node nodes k n linked at))
    ∙ within_known (revs_in nodes) n.parent some (subst (λ l. IfSome n.parent (λ i. i < l)) (sym (length-revs_in nodes)) own.parent) in
    let ps = same_joined (tree_of nodes).parents ((c, p) ∷ []) (ap (λ t. t && true) there) in
    λ i. record { origins = (tree_of nodes).origins; parents = sym ps i; contents = (tree_of nodes).contents }

-- ---- a new node at the end

get_left : (revs : List RevId) (r : RevId) (i : ℕ) → i < length revs → slice_get (revs ++ r ∷ []) i ≡ slice_get revs i
get_left [] r i h = absurd (omega arith)
get_left (x ∷ revs) r zero h = refl
get_left (x ∷ revs) r (suc i) h = get_left revs r i (omega arith)

rev_at_push : (revs : List RevId) (r : RevId) (o : Option ℕ) → IfSome o (λ i. i < length revs) → rev_at (revs ++ r ∷ []) o ≡ rev_at revs o
rev_at_push revs r None h = refl
rev_at_push revs r (Some i) h = get_left revs r i h

parent_among : (revs : List RevId) (o : Option NodeValue) (r : RevId) → part (parent_in revs) o ≡ Some r → is_among r revs ≡ true
parent_among revs None r h = absurd (false≢true (ap is_some h))
parent_among revs (Some n) r h = by n.parent h
  where
    by : (p : Option ℕ) → rev_at revs p ≡ Some r → is_among r revs ≡ true
    by None h = absurd (false≢true (ap is_some h))
    by (Some i) h = among_at revs i r h

-- a revision that has no node is not a parent
nobodys : (nodes : List NodeValue) → Distinct (revs_in nodes) → (r : RevId) → node_of nodes r ≡ None → is_parent (tree_of nodes) r ≡ false
nobodys nodes d r none =
    elim (is_parent (tree_of nodes) r) as (λ b. is_parent (tree_of nodes) r ≡ b → b ≡ false) [
      | true ↦ λ h.
          let w = child_of_parent (tree_of nodes) r h in
          absurd (false≢true (ap is_some (sym none) ∙ is_some-node_of nodes r ∙ parent_among (revs_in nodes) (node_of nodes w.0) r (sym (get-parents nodes d w.0) ∙ w.1)))
      | false ↦ λ _. refl
    ] refl

module _ (nodes : List NodeValue) (r : RevId) (linked : IsLinked nodes) (new : node_of nodes r ≡ None) where
  once_added : Distinct (revs_in (nodes ++ new_node r ∷ []))
  once_added = subst Distinct (sym (revs_in-push nodes (new_node r))) (distinct_push (revs_in nodes) r linked.once (sym (is_some-node_of nodes r) ∙ ap is_some new))

  added_origin : (x : Option NodeValue) (b : Bool) → part (λ n. Some no_origin) (option_or x (cond b (Some (new_node r)) None)) ≡ option_or (part (λ n. Some no_origin) x) (cond b (Some no_origin) None)
  added_origin None true = refl
  added_origin None false = refl
  added_origin (Some x) b = refl

  added_content : (x : Option NodeValue) (b : Bool) → part (λ n. n.content) (option_or x (cond b (Some (new_node r)) None)) ≡ part (λ n. n.content) x
  added_content None true = refl
  added_content None false = refl
  added_content (Some x) b = refl

  added_parent : (x : Option NodeValue) (b : Bool) → ((n : NodeValue) → x ≡ Some n → IfSome n.parent (λ i. i < length nodes)) → part (parent_in (revs_in nodes ++ r ∷ [])) (option_or x (cond b (Some (new_node r)) None)) ≡ part (parent_in (revs_in nodes)) x
  added_parent None true h = refl
  added_parent None false h = refl
  added_parent (Some x) b h = rev_at_push (revs_in nodes) r x.parent (subst (λ l. IfSome x.parent (λ i. i < l)) (sym (length-revs_in nodes)) (h x refl))

  parents_added : (tree_of (nodes ++ new_node r ∷ [])).parents ≡ (tree_of nodes).parents
  parents_added =
      ap (λ revs. from_entries {R = rev_cmp} (entries_of (parent_in revs) (nodes ++ new_node r ∷ []))) (revs_in-push nodes (new_node r))
      ∙ same_entries (parent_in (revs_in nodes)) (parent_in (revs_in nodes ++ r ∷ [])) nodes (nodes ++ new_node r ∷ []) linked.once once_added
      (λ q. ap (part (parent_in (revs_in nodes ++ r ∷ []))) (node_of-push nodes (new_node r) q) ∙ added_parent (node_of nodes q) (eq_by_cmp rev_cmp q r) (λ n e. (linked.each q n e).parent))

  pub tree_added : tree_of (nodes ++ new_node r ∷ []) ≡ with_rev (tree_of nodes) r no_origin
  tree_added =
      let more = nodes ++ new_node r ∷ [] in
      let os =
      joined_entries (λ n. Some no_origin) (λ n. Some no_origin) nodes more ((r, no_origin) ∷ []) linked.once once_added
      (λ q. ap (part (λ n. Some no_origin)) (node_of-push nodes (new_node r) q) ∙ added_origin (node_of nodes q) (eq_by_cmp rev_cmp q r)) in
      let cs =
      same_entries (λ n. n.content) (λ n. n.content) nodes more linked.once once_added
      (λ q. ap (part (λ n. n.content)) (node_of-push nodes (new_node r) q) ∙ added_content (node_of nodes q) (eq_by_cmp rev_cmp q r)) in
      λ i. record { origins = os i; parents = parents_added i; contents = cs i }

  same_marks : (q : RevId) → is_parent (tree_of nodes) q ≡ is_parent (tree_of (nodes ++ new_node r ∷ [])) q
  same_marks q = λ i. is_parent (record { origins = (tree_of nodes).origins; parents = sym parents_added i; contents = (tree_of nodes).contents }) q

  the_new : (b : Bool) (n : NodeValue) → cond b (Some (new_node r)) None ≡ Some n → n ≡ new_node r
  the_new true n h = sym (same_Some (new_node r) n h)
  the_new false n h = absurd (false≢true (ap is_some h))

  longer : (p : Option ℕ) → IfSome p (λ i. i < length nodes) → IfSome p (λ i. i < length (nodes ++ new_node r ∷ []))
  longer None h = tt
  longer (Some i) h = omega (arith, length-append nodes (new_node r ∷ []))

  pub linked_added : IsLinked (nodes ++ new_node r ∷ [])
  linked_added = record {
    once = once_added;
    each = λ q n e. elim (some_or (node_of nodes q) _ n (sym (node_of-push nodes (new_node r) q) ∙ e)) [
      | inl old ↦ let own = linked.each q n old in record { parent = longer n.parent own.parent; child = own.child ∙ same_marks n.rev }
      | inr two ↦ subst (IsNode (nodes ++ new_node r ∷ [])) (sym (the_new (eq_by_cmp rev_cmp q r) n two.1)) (record { parent = tt; child = sym (nobodys nodes linked.once r new) ∙ same_marks r })
    ];
  }

-- the effect of a new revision
pub record IsAdded (nodes after : List NodeValue) (r : RevId) : Type 0 where
  pub revs : revs_in after ≡ revs_in nodes ++ r ∷ []
  pub linked : IsLinked after
  pub tree : tree_of after ≡ with_rev (tree_of nodes) r no_origin
  pub kept : (i : ℕ) (q : RevId) → slice_get (revs_in nodes) i ≡ Some q → slice_get (revs_in after) i ≡ Some q

pub added : (nodes after : List NodeValue) (r : RevId) → IsLinked nodes → place_of nodes r ≡ None → after ≡ nodes ++ new_node r ∷ [] → IsAdded nodes after r
added nodes after r linked new is =
    let none = place_unknown nodes r new in
    subst (λ l. IsAdded nodes l r) (sym is) (record {
      revs = revs_in-push nodes (new_node r);
      linked = linked_added nodes r linked none;
      tree = tree_added nodes r linked none;
      kept = λ i q h. ap (λ l. slice_get l i) (revs_in-push nodes (new_node r)) ∙ slice_get-append (revs_in nodes) (r ∷ []) i q h;
    })

pub same_length : (nodes after : List NodeValue) → revs_in after ≡ revs_in nodes → length after ≡ length nodes
same_length nodes after same = sym (length-revs_in after) ∙ ap length same ∙ length-revs_in nodes

-- a revision that has a node is not added
pub tree_known : (nodes : List NodeValue) (r : RevId) (n : NodeValue) → IsLinked nodes → node_of nodes r ≡ Some n → tree_of nodes ≡ with_rev (tree_of nodes) r no_origin
tree_known nodes r n linked is =
    let os = same_joined (tree_of nodes).origins ((r, no_origin) ∷ []) (ap (λ t. t && true) (ap is_some (get-origins nodes linked.once r ∙ ap (part (λ (x : NodeValue). Some no_origin)) is))) in
    λ i. record { origins = sym os i; parents = (tree_of nodes).parents; contents = (tree_of nodes).contents }
