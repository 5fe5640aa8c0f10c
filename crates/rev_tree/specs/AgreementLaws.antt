-- Proves that two trees are the same if they agree, have complete histories and have each other's leaves. Further
-- theorems say when two trees have each other's leaves after each tree has received revisions from the other tree.
use Rattle.std.proofs.Common.{◌≡◌, ◌⊎◌, ℕ, zero, suc, true, false, not, ◌&&◌, ◌||◌, List, [], ◌∷◌, filter, Option, Some, None, is_some, refl, sym, ap, ◌∙◌, inl, inr, arith}
use Rattle.std.specs.List.{list_any}
use Rattle.std.specs.Option.{option_map_or}
use Rattle.std.specs.declared.cmp.Ordering.{Ordering}
use Rattle.std.specs.Ordering.{eq_by_cmp, ordering_then, bool_cmp}
use Rattle.std.specs.Cmp.{IsTotalOrder, eq_by_cmp_equiv, both_ways}
use Rattle.std.specs.FinMap.{get, find, keys, same_map}
use Rattle.std.specs.FinMap.Entries.{by_order}
use Rattle.std.proofs.lemmas.Bool.{and_parts, or_right, false≢true, cases_Bool, or_cases, and_from}
use Rattle.rev_core.specs.Rev.{RevId, rev_cmp}
use Rattle.rev_core.specs.RevOrder.{rev_cmp_total, rev_cmp_exact, rev_tie_is}
use Rattle.rev_core.specs.Ancestry.{edges_of, is_among}
use Rattle.rev_tree.specs.Content.{ContentValue}
use Rattle.rev_tree.specs.InOrder.{in_order, placed, in_order-nil, in_order-cons, any-in_order, same_in_order}
use Rattle.rev_tree.specs.Tree.{TreeValue, IsTree, has, is_parent, is_leaf, is_deleted, leaf_cmp, leaves, walk, ancestors, at_head, merged, SameRevisions}
use Rattle.rev_tree.specs.Agreement.{Agree, IsWhole, IsRoot, IsGrownBy}
use Rattle.rev_tree.specs.TreeLaws.{some_or, both_none, child_of_parent, parent_from_child, get-joined, get-joined_known, has-merged, edge_found}
use Rattle.rev_tree.specs.LeafLaws.{leaf_cmp_total, leaf_cmp_exact, leaf_tie, any_agree, is_among-leaves, leaf_above, has_walked, IsAncestry-ancestors}
use Rattle.rev_tree.specs.PartLaws.{none_is, some_told, told_some, edges_walked, given, given_is, at_leaf}
use Rattle.rev_tree.specs.declared.origin.Origin.{Origin}

-- ---- growing

pub IsGrownBy-same : (t other : TreeValue) → IsGrownBy t other t
IsGrownBy-same t other = record { kept = λ c p h. h; revs = λ r h. inl h; parents = λ c p h. inl h; contents = λ r b h. inl h; roots = λ r h. inl h }

-- Theorems about the tree `after`, which is tree t after adding a leaf of tree `other` and the leaf's ancestors.
module _ (old other t : TreeValue) (tree : IsTree other) (grown : IsGrownBy old other t) (leaf : RevId) (is : is_leaf other leaf ≡ true) (o : Origin) where
  abbrev revs : List RevId
  revs = ancestors other leaf

  abbrev after : TreeValue
  after = merged t revs (given other leaf) o

  known : has other leaf ≡ true
  known = (and_parts _ _ is).0

  -- If a leaf of tree `other` and the leaf's ancestors are merged into tree t, each merged edge is an edge of `other`.
  edge_at : (q : RevId) → is_among q revs ≡ true → find rev_cmp q (edges_of revs) ≡ get other.parents q
  edge_at q among = edges_walked other tree leaf.generation leaf q known (omega arith) among

  root_there : (r : RevId) → has t r ≡ true ⊎ (is_among r revs ≡ true) → (get t.parents r ≡ None) × (find rev_cmp r (edges_of revs) ≡ None) → IsRoot old r ⊎ IsRoot other r
  root_there r (inl there) none = grown.roots r (there, none.0)
  root_there r (inr among) none = inr (has_walked other tree leaf.generation leaf r known among, sym (edge_at r among) ∙ none.1)

  pub IsGrownBy-merged : IsGrownBy old other (merged t (ancestors other leaf) (given other leaf) o)
  IsGrownBy-merged = record {
    kept = λ c p h. get-joined_known t.parents (edges_of revs) c p (grown.kept c p h);
    revs = λ r h. elim (or_cases _ _ (sym (has-merged t revs (given other leaf) o r) ∙ h)) [
      | inl there ↦ grown.revs r there
      | inr among ↦ inr (has_walked other tree leaf.generation leaf r known among)
    ];
    parents = λ c p h. elim (some_or (get t.parents c) (find rev_cmp c (edges_of revs)) p (sym (get-joined t.parents (edges_of revs) c) ∙ h)) [
      | inl there ↦ grown.parents c p there
      | inr new ↦ inr (sym (edge_at c (edge_found revs c p (IsAncestry-ancestors other tree leaf known).falls new.1).child) ∙ new.1)
    ];
    contents = λ r b h. elim (some_or (get t.contents r) (find rev_cmp r (at_head revs (given other leaf))) b (sym (get-joined t.contents (at_head revs (given other leaf)) r) ∙ h)) [
      | inl there ↦ grown.contents r b there
      | inr new ↦
          let at = at_leaf other leaf r (told_some _ b new.1) in
          let own = some_told (get other.contents leaf) (tree.leaf leaf is) in
          inr (ap (get other.contents) at.0 ∙ own.1 ∙ ap Some (sym (given_is other leaf own.0 own.1)) ∙ sym at.1 ∙ new.1)
    ];
    roots = λ r h. root_there r (or_cases _ _ (sym (has-merged t revs (given other leaf) o r) ∙ h.0)) (both_none _ _ (sym (get-joined t.parents (edges_of revs) r) ∙ h.1));
  }

-- ---- in both directions

one_parent : {X : Type 0} (o : Option X) (x y : X) → o ≡ Some x → o ≡ Some y → x ≡ y
one_parent {X = X} o x y h k = ap (λ (v : Option X). option_map_or (λ w. w) v x) (sym h ∙ k)

-- If tree t has grown from tree `old`, each leaf of t that is a revision of `old` is a leaf of `old` too.
leaf_kept : (old other t : TreeValue) → IsGrownBy old other t → (l : RevId) → is_leaf t l ≡ true → has old l ≡ true → is_leaf old l ≡ true
leaf_kept old other t grown l top there =
    elim (cases_Bool (is_parent old l)) [
      | inl up ↦
          let c = child_of_parent old l up in
          absurd (false≢true (sym (ap not (parent_from_child t l c.0 (grown.kept c.0 l c.1))) ∙ (and_parts _ _ top).1))
      | inr none ↦ and_from _ _ there (ap not none)
    ]

-- Adding data of tree `other` to tree `old` gives tree t (`IsGrownBy`). If tree `other` has all leaves of tree `old`,
-- tree `other` also has all leaves of tree t.
pub leaves_known : (old other t : TreeValue) → IsGrownBy old other t → ((l : RevId) → is_leaf old l ≡ true → has other l ≡ true) → (l : RevId) → is_leaf t l ≡ true → has other l ≡ true
leaves_known old other t grown all l top =
    elim (grown.revs l (and_parts _ _ top).0) [
      | inl there ↦ all l (leaf_kept old other t grown l top there)
      | inr there ↦ there
    ]

-- Theorems about two trees, each of which grows by data of the other tree. Adding data of tree a to tree b gives tree
-- b', and then adding data of tree b' to tree a gives tree a'.
module _ (a b b' a' : TreeValue) (there : IsGrownBy b a b') (back : IsGrownBy a b' a') where
  pub Agree-grown : Agree a b → Agree a' b'
  Agree-grown agree = record {
    parents = λ c p q h k. elim (back.parents c p h) [
      | inl own ↦ elim (there.parents c q k) [
        | inl other ↦ agree.parents c p q own other
        | inr same ↦ one_parent (get a.parents c) p q own same
      ]
      | inr brought ↦ one_parent (get b'.parents c) p q brought k
    ];
    contents = λ r x y h k. elim (back.contents r x h) [
      | inl own ↦ elim (there.contents r y k) [
        | inl other ↦ agree.contents r x y own other
        | inr same ↦ one_parent (get a.contents r) x y own same
      ]
      | inr brought ↦ one_parent (get b'.contents r) x y brought k
    ];
  }

  pub IsWhole-there : IsWhole a → IsWhole b → IsWhole b'
  IsWhole-there ours theirs r h none = elim (there.roots r (h, none)) [ inl own ↦ theirs r own.0 own.1 | inr brought ↦ ours r brought.0 brought.1 ]

  pub IsWhole-back : IsWhole a → IsWhole b → IsWhole a'
  IsWhole-back ours theirs r h none = elim (back.roots r (h, none)) [ inl own ↦ ours r own.0 own.1 | inr brought ↦ IsWhole-there ours theirs r brought.0 brought.1 ]

-- ---- the same

-- Trees s and t agree, and t has complete histories. If tree s stores a revision's parent, and tree t has the revision,
-- then t stores the same parent.
module _ (s t : TreeValue) (ours : IsTree s) (theirs : IsTree t) (agree : Agree s t) (whole : IsWhole t) where
  same_parent : (c p : RevId) → has t c ≡ true → get s.parents c ≡ Some p → get t.parents c ≡ Some p
  same_parent c p there e = go (get t.parents c) refl
    where
      go : (o : Option RevId) → get t.parents c ≡ o → get t.parents c ≡ Some p
      go None f =
          let first = whole c there f in
          let falls = ours.falls c p e in
          let low = (ours.revs p (ours.parent c p e)).low in
          absurd (omega (arith, first, falls, low))
      go (Some q) f = f ∙ ap Some (sym (agree.parents c p q e f))

  walked : (n : ℕ) (x r : RevId) → has t x ≡ true → is_among r (walk s.parents n x) ≡ true → has t r ≡ true
  walked zero x r there h = elim (or_cases _ _ h) [ inl tie ↦ ap (has t) (rev_tie_is r x tie) ∙ there | inr nothing ↦ absurd (false≢true nothing) ]
  walked (suc n) x r there h =
      elim (or_cases _ _ h) [
        | inl tie ↦ ap (has t) (rev_tie_is r x tie) ∙ there
        | inr later ↦ elim (get s.parents x) as (λ o. get s.parents x ≡ o → is_among r (option_map_or (walk s.parents n) o []) ≡ true → has t r ≡ true) [
          | None ↦ λ _ nothing. absurd (false≢true nothing)
          | Some p ↦ λ e more. walked n p r (theirs.parent x p (same_parent x p there e)) more
        ] refl later
      ]

  pub all_known : ((l : RevId) → is_leaf s l ≡ true → has t l ≡ true) → (r : RevId) → has s r ≡ true → has t r ≡ true
  all_known leaves r h = let up = leaf_above s ours r h in walked up.0.generation up.0 r (leaves up.0 up.1.leaf) up.1.above

  pub edges_known : ((l : RevId) → is_leaf s l ≡ true → has t l ≡ true) → (c p : RevId) → get s.parents c ≡ Some p → get t.parents c ≡ Some p
  edges_known leaves c p e = same_parent c p (all_known leaves c (ours.child c p e)) e

turned : (s t : TreeValue) → Agree s t → Agree t s
turned s t agree = record { parents = λ c p q h k. sym (agree.parents c q p k h); contents = λ r b d h k. sym (agree.contents r d b k h) }

-- If two trees agree, have complete histories and have each other's leaves, they have the same revisions, edges and
-- contents.
pub same_by_leaves : (s t : TreeValue) → IsTree s → IsTree t → Agree s t → IsWhole s → IsWhole t → ((l : RevId) → is_leaf s l ≡ true → has t l ≡ true) → ((l : RevId) → is_leaf t l ≡ true → has s l ≡ true) → SameRevisions s t
same_by_leaves s t ours theirs agree whole_s whole_t there back = record {
  revs = λ r. both_ways _ _ (all_known s t ours theirs agree whole_t there r) (all_known t s theirs ours (turned s t agree) whole_s back r);
  edges = same;
  contents = λ leaf is.
      let b = some_told (get s.contents leaf) (ours.leaf leaf is) in
      let d = some_told (get t.contents leaf) (theirs.leaf leaf (and_from _ _ (there leaf is) (ap not (nobody leaf is)))) in
      b.1 ∙ ap Some (agree.contents leaf b.0 d.0 b.1 d.1) ∙ sym d.1;
}
  where
    same : s.parents ≡ t.parents
    same = same_map rev_cmp_total rev_cmp_exact _ _ (λ q. go q (get s.parents q) refl)
      where
        go : (q : RevId) (o : Option RevId) → get s.parents q ≡ o → get s.parents q ≡ get t.parents q
        go q (Some p) e = e ∙ sym (edges_known s t ours theirs agree whole_t there q p e)
        go q None e = e ∙ sym (none_is (get t.parents q) (λ p f. false≢true (ap is_some (sym e ∙ edges_known t s theirs ours (turned s t agree) whole_s back q p f))))

    nobody : (leaf : RevId) → is_leaf s leaf ≡ true → is_parent t leaf ≡ false
    nobody leaf is =
        elim (cases_Bool (is_parent t leaf)) [
          | inl up ↦
              let c = child_of_parent t leaf up in
              absurd (false≢true (sym (ap not (parent_from_child s leaf c.0 (ap (λ m. get m c.0) same ∙ c.1))) ∙ (and_parts _ _ is).1))
          | inr none ↦ none
        ]

-- ---- leaves of equal trees

-- Two orders insert an element k at the same position of a list if they compare k with each list element in the same
-- way.
same_placed : {K : Type 0} (R S : K → K → Ordering) → IsTotalOrder R → (k : K) (ys : List K) → ((y : K) → list_any (eq_by_cmp R y) ys ≡ true → R k y ≡ S k y) → placed R k ys ≡ placed S k ys
same_placed R S total k [] h = refl
same_placed R S total k (y ∷ ys) h =
    λ i. by_order (h y (ap (λ b. b || list_any (eq_by_cmp R y) ys) ((eq_by_cmp_equiv total).refl y)) i) (k ∷ (y ∷ ys)) (y ∷ ys)
    (y ∷ same_placed R S total k ys (λ x m. h x (or_right _ _ m)) i)

same_order : {K : Type 0} (R S : K → K → Ordering) → IsTotalOrder R → IsTotalOrder S → (xs : List K) → ((a b : K) → list_any (eq_by_cmp R a) xs ≡ true → list_any (eq_by_cmp R b) xs ≡ true → R a b ≡ S a b) → in_order R xs ≡ in_order S xs
same_order R S r s [] h = in_order-nil R ∙ sym (in_order-nil S)
same_order R S r s (k ∷ xs) h =
    in_order-cons r k xs
    ∙ same_placed R S r k (in_order R xs) (λ y m. h k y (ap (λ b. b || list_any (eq_by_cmp R k) xs) ((eq_by_cmp_equiv r).refl k)) (or_right _ _ (sym (any-in_order r xs y) ∙ m)))
    ∙ ap (placed S k) (same_order R S r s xs (λ a b m n. h a b (or_right _ _ m) (or_right _ _ n))) ∙ sym (in_order-cons s k xs)

-- A search for revision r in the unsorted list of tree t's leaves finds r exactly if r is a leaf of t. The search may
-- use the leaf order of any tree u, because only identical revisions compare as equal in a leaf order.
any_leaf : (u t : TreeValue) (r : RevId) → list_any (eq_by_cmp (leaf_cmp u) r) (filter (is_leaf t) (keys t.origins)) ≡ is_leaf t r
any_leaf u t r =
    let all = filter (is_leaf t) (keys t.origins) in
    any_agree (eq_by_cmp (leaf_cmp u) r) (eq_by_cmp (leaf_cmp t) r) (λ x. leaf_tie u r x ∙ sym (leaf_tie t r x)) all
    ∙ sym (any-in_order (leaf_cmp_total t) all r) ∙ any_agree (eq_by_cmp (leaf_cmp t) r) (eq_by_cmp rev_cmp r) (λ x. leaf_tie t r x) (leaves t) ∙ is_among-leaves t r

-- Equal trees have the same leaves in the same order, and therefore the same winner.
pub same_leaves : (s t : TreeValue) → SameRevisions s t → leaves s ≡ leaves t
same_leaves s t same =
    same_order (leaf_cmp s) (leaf_cmp t) (leaf_cmp_total s) (leaf_cmp_total t) (filter (is_leaf s) (keys s.origins))
    (λ a b m n. λ i. ordering_then (bool_cmp (deleted a (sym (any_leaf s s a) ∙ m) i) (deleted b (sym (any_leaf s s b) ∙ n) i)) (rev_cmp b a))
    ∙ same_in_order (leaf_cmp_total t) (leaf_cmp_exact t) (filter (is_leaf s) (keys s.origins)) (filter (is_leaf t) (keys t.origins)) (λ q. any_leaf t s q ∙ leaf_same q ∙ sym (any_leaf t t q))
  where
    leaf_same : (r : RevId) → is_leaf s r ≡ is_leaf t r
    leaf_same r = λ i. same.revs r i && not (list_any (λ c. option_map_or (eq_by_cmp rev_cmp r) (get (same.edges i) c) false) (keys (same.edges i)))

    deleted : (r : RevId) → is_leaf s r ≡ true → is_deleted s r ≡ is_deleted t r
    deleted r is = ap (λ (o : Option ContentValue). option_map_or (λ (b : ContentValue). b.deleted) o false) (same.contents r is)
