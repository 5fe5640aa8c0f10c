-- A tree that shares the nodes of another.
use Rattle.proof_prelude.proofs.{◌≡◌, ℕ, ◌+◌, ◌<◌, ◌≤◌, List, [], ◌∷◌, map, length, Option, Some, None, Bool, true, false, not, cond, is_some, sym, ap, ◌∙◌, refl, false≢true, eq_by_cmp, option_map, option_or, slice_get, same_Some, get, get-empty, empty, same_map, ◌||◌, ◌&&◌, or_cases, arith, cases_lt, Bor, option_copied, inl, inr, cases_Bool}
use Rattle.std.specs.FinMap.{find}
use Rattle.rev_core.specs.{RevId, rev_cmp, rev_cmp_total, rev_cmp_exact, is_among, rev_tie_is, rev_tie_self}
use Rattle.rev_tree.specs.{ContentValue, TreeValue, IsTree, ancestors, ancestors_self, at_head, has, is_leaf, joined, leaves, merged, no_revisions, only_of, get-joined, has-merged, is_among-leaves, given, nothing_is_part, part_merged, whole_part, IsAllOf, IsLinked, IsStored, NodeValue, Origin, OriginsValue, node_of, one, place_of, shown, StoredValue, tree_of}
use Rattle.rev_tree.specs.Tree.{SameRevisions}
use Rattle.rev_tree.specs.PartLaws.{at_leaf, given_is, walk_begins}
use Rattle.rev_tree.proofs.Places.{none_of, place_known, place_none}
use Rattle.rev_tree.proofs.Lookups.{Shows, content_is, leaf_is, parent_shown, shows_itself}
use Rattle.rev_tree.proofs.Showing.{find_same, get-labelled, has-place, same_shown, shows, stored_tree}

empty_or : {X : Type 0} (q : RevId) (o : Option X) → option_or (get (empty {X = X} {R = rev_cmp}) q) o ≡ o
empty_or q o = ap (λ x. option_or x o) (get-empty rev_cmp q)

same_for : (o : Origin) (p : Option ℕ) (b : Bool) → is_some p ≡ b → option_map (λ i. o) p ≡ cond b (Some o) None
same_for o None b h = ap (λ c. cond c (Some o) None) h
same_for o (Some i) b h = ap (λ c. cond c (Some o) None) h

-- nodes with the revisions, parents and contents of a merge into an empty tree
pub relabelled : (nodes : List NodeValue) (revs : List RevId) (b : ContentValue) (o : Origin) → IsLinked nodes → ((q : RevId) → has (tree_of nodes) q ≡ is_among q revs)
    → (tree_of nodes).parents ≡ (merged no_revisions revs b o).parents → (tree_of nodes).contents ≡ (merged no_revisions revs b o).contents → shown nodes (one o) ≡ merged no_revisions revs b o
relabelled nodes revs b o linked known parents contents =
    let origins =
    same_map rev_cmp_total rev_cmp_exact (shown nodes (one o)).origins (merged no_revisions revs b o).origins (λ q.
    get-labelled nodes (one o) q
    ∙ same_for o (place_of nodes q) (is_among q revs) (sym (has-place nodes linked q) ∙ known q)
    ∙ sym (get-joined (no_revisions).origins (map (λ r. (r, o)) revs) q ∙ empty_or q _ ∙ find_same q o revs)) in
    λ j. record { origins = origins j; parents = parents j; contents = contents j }

has-made : (revs : List RevId) (b : ContentValue) (o : Origin) (q : RevId) → has (merged no_revisions revs b o) q ≡ is_among q revs
has-made revs b o q = has-merged no_revisions revs b o q ∙ ap (λ x. is_some x || is_among q revs) (get-empty rev_cmp q)

-- another origin for all revisions
pub other_origin : (nodes : List NodeValue) (os : OriginsValue) (t : TreeValue) (revs : List RevId) (b : ContentValue) (old o : Origin) → IsLinked nodes → shown nodes os ≡ t → t ≡ merged no_revisions revs b old
    → shown nodes (one o) ≡ merged no_revisions revs b o
other_origin nodes os t revs b old o linked view is =
    let all = shows nodes os t linked view in
    relabelled nodes revs b o linked (λ q. all.has q ∙ ap (λ u. has u q) is ∙ has-made revs b old q)
    (all.parents ∙ ap (λ (u : TreeValue). u.parents) is) (all.contents ∙ ap (λ (u : TreeValue). u.contents) is)

-- a stored tree with one origin of all revisions
pub all_shown : (s : StoredValue) (nodes : List NodeValue) (o : Origin) → s.items ≡ nodes → IsAllOf s o → shown s.items s.origins ≡ shown nodes (one o)
all_shown s nodes o is all = same_shown s.items (one o) s.origins all.at ∙ ap (λ l. shown l (one o)) is

-- ---- contents of leaves only

-- no node with a child has a content, among the nodes before index i
pub record IsScanned (nodes : List NodeValue) (i : ℕ) : Type 0 where
  pub bare : (k : ℕ) (n : NodeValue) → k < i → slice_get nodes k ≡ Some n → n.has_child ≡ true → n.content ≡ None

pub scanned_first : (nodes : List NodeValue) → IsScanned nodes 0
scanned_first nodes = record { bare = λ k n low. absurd (omega (arith, low)) }

pub scanned_more : (nodes : List NodeValue) (i : ℕ) (n : NodeValue) → slice_get nodes i ≡ Some n → (n.has_child && is_some n.content) ≡ false → IsScanned nodes i → IsScanned nodes (i + 1)
scanned_more nodes i n at none before = record {
  bare = λ k m low there child. elim (cases_lt k i) [
    | inl less ↦ before.bare k m less there child
    | inr more ↦
        let is : k ≡ i = omega (arith, low, more) in
        let same = same_Some m n (sym there ∙ ap (slice_get nodes) is ∙ at) in
        none_of m.content (ap (λ b. b && is_some m.content) (sym child) ∙ ap (λ (x : NodeValue). x.has_child && is_some x.content) same ∙ none)
  ];
}

pub all_scanned : (nodes : List NodeValue) (i : ℕ) → length nodes ≤ i → IsScanned nodes i → IsScanned nodes (length nodes)
all_scanned nodes i all scanned = record { bare = λ k n low. scanned.bare k n (omega (arith, low, all)) }

no_child : (b : Bool) → (b ≡ true → ⊥) → b ≡ false
no_child true h = absurd (h refl)
no_child false h = refl

some_place : (nodes : List NodeValue) (r : RevId) (n : NodeValue) → node_of nodes r ≡ Some n → (i : ℕ) × (place_of nodes r ≡ Some i)
some_place nodes r n e = there (place_of nodes r) refl
  where
    there : (o : Option ℕ) → place_of nodes r ≡ o → (i : ℕ) × (place_of nodes r ≡ Some i)
    there None h = absurd (false≢true (ap is_some (sym h) ∙ place_none nodes r 0 ∙ ap is_some e))
    there (Some i) h = (i, h)

pub only_leaves : (nodes : List NodeValue) → IsLinked nodes → IsScanned nodes (length nodes) → (r : RevId) → is_some (get (tree_of nodes).contents r) ≡ true → is_leaf (tree_of nodes) r ≡ true
only_leaves nodes linked scanned r some = by (node_of nodes r) refl
  where
    by : (o : Option NodeValue) → node_of nodes r ≡ o → is_leaf (tree_of nodes) r ≡ true
    by None e = absurd (false≢true (sym (ap is_some (content_is nodes (tree_of nodes) r None linked (shows_itself nodes) e)) ∙ some))
    by (Some n) e =
        let place = some_place nodes r n e in
        leaf_is nodes (tree_of nodes) r (Some n) linked (shows_itself nodes) e
        ∙ ap not (no_child n.has_child (λ child.
        let at = (place_known nodes r place.0 place.1) in
        let same = same_Some at.node n (sym at.found ∙ e) in
        let none = scanned.bare place.0 n at.within (at.at ∙ ap Some same) child in
        false≢true (ap is_some (sym none) ∙ ap is_some (sym (content_is nodes (tree_of nodes) r (Some n) linked (shows_itself nodes) e)) ∙ some)))

-- ---- the only leaf of a tree

module _ (t : TreeValue) (tree : IsTree t) (leaf : RevId) (is : is_leaf t leaf ≡ true) (b : ContentValue) (content : get t.contents leaf ≡ Some b) (o : Origin)
    (alone : (r : RevId) → is_leaf t r ≡ true → r ≡ leaf) (only : (r : RevId) → is_some (get t.contents r) ≡ true → is_leaf t r ≡ true) where
  abbrev made : TreeValue
  made = merged no_revisions (ancestors t leaf) (given t leaf) o

  in_made : has made leaf ≡ true
  in_made = has-made (ancestors t leaf) (given t leaf) o leaf ∙ ancestors_self t leaf

  same : SameRevisions t made
  same = whole_part t made tree (part_merged t no_revisions tree (nothing_is_part t) leaf is o) (λ r top. ap (has made) (alone r top) ∙ in_made)

  pub known_made : (q : RevId) → has t q ≡ is_among q (ancestors t leaf)
  known_made q = same.revs q ∙ has-made (ancestors t leaf) (given t leaf) o q

  pub parents_made : t.parents ≡ (merged no_revisions (ancestors t leaf) b o).parents
  parents_made = same.edges

  contents_at : (q : RevId) → get t.contents q ≡ find rev_cmp q (at_head (ancestors t leaf) (given t leaf))
  contents_at q = elim (cases_Bool (is_some (find rev_cmp q (at_head (ancestors t leaf) (given t leaf))))) [
    | inl there ↦
        let at = at_leaf t leaf q there in
        ap (get t.contents) at.0 ∙ content ∙ sym (ap Some (given_is t leaf b content)) ∙ sym at.1
    | inr nothing ↦
        none_of (get t.contents q) (not_there q nothing) ∙ sym (none_of _ nothing)
  ]
    where
      not_there : (q : RevId) → is_some (find rev_cmp q (at_head (ancestors t leaf) (given t leaf))) ≡ false → is_some (get t.contents q) ≡ false
      not_there q nothing = elim (cases_Bool (is_some (get t.contents q))) [
        | inl some ↦ absurd (false≢true (sym nothing ∙ ap (λ r. is_some (find rev_cmp r (at_head (ancestors t leaf) (given t leaf)))) (alone q (only q some)) ∙ head_there))
        | inr none ↦ none
      ]
        where
          head_there : is_some (find rev_cmp leaf (at_head (ancestors t leaf) (given t leaf))) ≡ true
          head_there =
              let begins = walk_begins t.parents leaf.generation leaf in
              ap (λ w. is_some (find rev_cmp leaf (at_head w (given t leaf)))) begins.1 ∙ ap (λ c. is_some (cond c (Some (given t leaf)) None)) (rev_tie_self leaf)

  pub contents_made : t.contents ≡ (merged no_revisions (ancestors t leaf) b o).contents
  contents_made =
      same_map rev_cmp_total rev_cmp_exact t.contents (joined empty (at_head (ancestors t leaf) b)) (λ q.
      contents_at q ∙ ap (λ x. find rev_cmp q (at_head (ancestors t leaf) x)) (given_is t leaf b content)
      ∙ sym (get-joined empty (at_head (ancestors t leaf) b) q ∙ empty_or q _))

pub single : (o : Option (Bor RevId)) (t : TreeValue) → option_copied o ≡ only_of (leaves t) → is_some o ≡ true → is_some (only_of (leaves t)) ≡ true
single None t e h = absurd (false≢true h)
single (Some r) t e h = ap is_some (sym e)

-- a tree that shares the nodes of a tree with one leaf
pub shared_leaf : (nodes : List NodeValue) (os : OriginsValue) (best : ℕ) (t : TreeValue) (o : Origin) (leaf : RevId) (b : ContentValue) → IsStored nodes os best → shown nodes os ≡ t
    → is_some (only_of (leaves t)) ≡ true → ((r : RevId) → is_some (get (tree_of nodes).contents r) ≡ true → is_leaf (tree_of nodes) r ≡ true)
    → is_leaf t leaf ≡ true → get t.contents leaf ≡ Some b → shown nodes (one o) ≡ merged no_revisions (ancestors t leaf) b o
shared_leaf nodes os best t o leaf b stored view single only is content =
    let all = shows nodes os t stored.linked view in
    let tree = stored_tree nodes os best t stored view in
    let alone = only_one t leaf is single in
    let top = λ (r : RevId) (h : is_some (get t.contents r) ≡ true). sym (leaf_shown nodes t all r) ∙ only r (ap (λ m. is_some (get m r)) all.contents ∙ h) in
    relabelled nodes (ancestors t leaf) b o stored.linked (λ q. all.has q ∙ known_made t tree leaf is b content o alone top q)
    (all.parents ∙ parents_made t tree leaf is b content o alone top) (all.contents ∙ contents_made t tree leaf is b content o alone top)
  where
    leaf_shown : (nodes : List NodeValue) (t : TreeValue) → Shows nodes t → (r : RevId) → is_leaf (tree_of nodes) r ≡ is_leaf t r
    leaf_shown nodes t view r = λ i. view.has r i && not (parent_shown nodes t view r i)

    only_one : (t : TreeValue) (leaf : RevId) → is_leaf t leaf ≡ true → is_some (only_of (leaves t)) ≡ true → (r : RevId) → is_leaf t r ≡ true → r ≡ leaf
    only_one t leaf is single r top = both (leaves t) single (is_among-leaves t r ∙ top) (is_among-leaves t leaf ∙ is)
      where
        both : (l : List RevId) → is_some (only_of l) ≡ true → is_among r l ≡ true → is_among leaf l ≡ true → r ≡ leaf
        both [] h a b = absurd (false≢true a)
        both (x ∷ []) h a b = rev_tie_is r x (tie_of r x a) ∙ sym (rev_tie_is leaf x (tie_of leaf x b))
          where
            tie_of : (r x : RevId) → is_among r (x ∷ []) ≡ true → eq_by_cmp rev_cmp r x ≡ true
            tie_of r x h = elim (or_cases (eq_by_cmp rev_cmp r x) false h) [ inl tie ↦ tie | inr nothing ↦ absurd (false≢true nothing) ]
        both (x ∷ (y ∷ l)) h a b = absurd (false≢true h)
