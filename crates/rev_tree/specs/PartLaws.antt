-- Theorems about a tree that is a part of another tree. If tree t is a part of tree s, it is still a part of s after
-- adding a leaf of s and the leaf's ancestors. If a part of tree s has all leaves of s, the part has the same
-- revisions, parents and leaf contents as s.
use Rattle.std.proofs.Common.{◌≡◌, ℕ, zero, suc, ◌≤◌, true, false, not, cond, ◌||◌, List, [], ◌∷◌, Option, Some, None, is_some, refl, sym, ap, ◌∙◌, inl, inr, arith}
use Rattle.std.specs.Option.{option_map_or, option_or}
use Rattle.std.specs.Ordering.{eq_by_cmp}
use Rattle.std.specs.FinMap.{FinMap, get, find, get-empty, same_map}
use Rattle.std.proofs.lemmas.Bool.{and_parts, false≢true, cases_Bool, or_cases}
use Rattle.std.specs.Cmp.{both_ways}
use Rattle.rev_core.specs.Rev.{RevId, rev_cmp}
use Rattle.rev_core.specs.RevOrder.{rev_cmp_total, rev_cmp_exact, rev_tie_is, rev_tie_self}
use Rattle.rev_core.specs.Ancestry.{edges_of, is_among}
use Rattle.rev_tree.specs.Content.{ContentValue}
use Rattle.rev_tree.specs.Tree.{TreeValue, IsTree, has, is_leaf, is_deleted, walk, ancestors, at_head, merged, no_revisions, SameRevisions}
use Rattle.rev_tree.specs.TreeLaws.{some_or, get-joined, has-merged, has-merged_known, has-merged_given, parent_from_child, edge_found, head_or_parent}
use Rattle.rev_tree.specs.LeafLaws.{has_walked, leaf_above, IsAncestry-ancestors}
use Rattle.rev_tree.specs.declared.origin.Origin.{Origin}

-- ---- options

pub or_none : {X : Type 0} (x : Option X) → option_or x None ≡ x
or_none None = refl
or_none (Some x) = refl

or_twice : {X : Type 0} (x : Option X) → option_or x x ≡ x
or_twice None = refl
or_twice (Some x) = refl

or_known : {X : Type 0} (x y : Option X) → is_some x ≡ true → option_or x y ≡ x
or_known None y h = absurd (false≢true h)
or_known (Some x) y h = refl

-- If an option differs from `Some x` for each value x, the option is `None`.
pub none_is : {X : Type 0} (o : Option X) → ((x : X) → o ≡ Some x → ⊥) → o ≡ None
none_is None h = refl
none_is (Some x) h = absurd (h x refl)

pub some_told : {X : Type 0} (o : Option X) → is_some o ≡ true → (x : X) × (o ≡ Some x)
some_told None h = absurd (false≢true h)
some_told (Some x) h = (x, refl)

pub told_some : {X : Type 0} (o : Option X) (x : X) → o ≡ Some x → is_some o ≡ true
told_some o x h = ap is_some h

-- ---- edges of a traversal

pub walk_begins : (m : FinMap rev_cmp RevId) (n : ℕ) (p : RevId) → (rest : List RevId) × (walk m n p ≡ p ∷ rest)
walk_begins m zero p = ([], refl)
walk_begins m (suc n) p = (option_map_or (walk m n) (get m p) [], refl)

-- If a traversal of tree s visits a revision, the edges between the visited revisions give this revision the same
-- parent as tree s.
pub edges_walked : (s : TreeValue) → IsTree s → (n : ℕ) (x c : RevId) → has s x ≡ true → x.generation ≤ n → is_among c (walk s.parents n x) ≡ true → find rev_cmp c (edges_of (walk s.parents n x)) ≡ get s.parents c
edges_walked s tree zero x c known low h = let low' = (tree.revs x known).low in absurd (omega arith)
edges_walked s tree (suc n) x c known low h = go (λ p there under among. edges_walked s tree n p c there under among) (get s.parents x) refl
  where
    go : ((p : RevId) → has s p ≡ true → p.generation ≤ n → is_among c (walk s.parents n p) ≡ true → find rev_cmp c (edges_of (walk s.parents n p)) ≡ get s.parents c)
        → (o : Option RevId) → get s.parents x ≡ o → find rev_cmp c (edges_of (walk s.parents (suc n) x)) ≡ get s.parents c
    go further None e =
        let whole : walk s.parents (suc n) x ≡ x ∷ [] = ap (λ o. x ∷ option_map_or (walk s.parents n) o []) e in
        let tie : eq_by_cmp rev_cmp c x ≡ true = elim (or_cases (eq_by_cmp rev_cmp c x) false (sym (ap (is_among c) whole) ∙ h)) [ inl tie ↦ tie | inr nothing ↦ absurd (false≢true nothing) ] in
        ap (λ w. find rev_cmp c (edges_of w)) whole ∙ sym e ∙ ap (get s.parents) (sym (rev_tie_is c x tie))
    go further (Some p) e =
        let falls = tree.falls x p e in
        let begins = walk_begins s.parents n p in
        let whole : walk s.parents (suc n) x ≡ x ∷ walk s.parents n p = ap (λ o. x ∷ option_map_or (walk s.parents n) o []) e in
        let edges : edges_of (walk s.parents (suc n) x) ≡ (x, p) ∷ edges_of (walk s.parents n p) =
        ap edges_of (whole ∙ ap (λ w. x ∷ w) begins.1) ∙ ap (λ w. (x, p) ∷ edges_of w) (sym begins.1) in
        let among : (eq_by_cmp rev_cmp c x || is_among c (walk s.parents n p)) ≡ true = sym (ap (is_among c) whole) ∙ h in
        ap (find rev_cmp c) edges
        ∙ (elim (eq_by_cmp rev_cmp c x) as (λ b. eq_by_cmp rev_cmp c x ≡ b → (b || is_among c (walk s.parents n p)) ≡ true → cond b (Some p) (find rev_cmp c (edges_of (walk s.parents n p))) ≡ get s.parents c) [
          | true ↦ λ tie _. sym e ∙ ap (get s.parents) (sym (rev_tie_is c x tie))
          | false ↦ λ _ later. further p (tree.parent x p e) (omega (arith, falls, low)) later
        ] refl among)

-- If a traversal does not visit a revision, no edge between the visited revisions has this revision as its child.
edges_apart : (s : TreeValue) → IsTree s → (x c : RevId) → has s x ≡ true → is_among c (ancestors s x) ≡ false → find rev_cmp c (edges_of (ancestors s x)) ≡ None
edges_apart s tree x c known apart =
    none_is (find rev_cmp c (edges_of (ancestors s x))) (λ p e. false≢true (sym apart ∙ (edge_found (ancestors s x) c p (IsAncestry-ancestors s tree x known).falls e).child))

-- ---- parts

-- Tree t is a part of tree s: t has some of the revisions of s, and for each revision also its ancestors. A leaf of
-- tree s that is in tree t has the same content in both trees.
pub record IsPart (s t : TreeValue) : Type 0 where
  pub within : (r : RevId) → has t r ≡ true → has s r ≡ true
  pub parents : (r : RevId) → has t r ≡ true → get t.parents r ≡ get s.parents r
  pub child : (c p : RevId) → get t.parents c ≡ Some p → has t c ≡ true
  pub parent : (c p : RevId) → get t.parents c ≡ Some p → has t p ≡ true
  pub content : (r : RevId) → is_some (get t.contents r) ≡ true → has t r ≡ true
  pub leaves : (r : RevId) → has t r ≡ true → is_leaf s r ≡ true → get t.contents r ≡ get s.contents r

pub nothing_is_part : (s : TreeValue) → IsPart s no_revisions
nothing_is_part s = record {
  within = λ r h. absurd (none r h);
  parents = λ r h. absurd (none r h);
  child = λ c p h. absurd (false≢true (ap is_some (sym (get-empty rev_cmp c) ∙ h)));
  parent = λ c p h. absurd (false≢true (ap is_some (sym (get-empty rev_cmp c) ∙ h)));
  content = λ r h. absurd (false≢true (sym (ap is_some (get-empty rev_cmp r)) ∙ h));
  leaves = λ r h. absurd (none r h);
}
  where
    none : (r : RevId) → has no_revisions r ≡ true → ⊥
    none r h = false≢true (sym (ap is_some (get-empty rev_cmp r)) ∙ h)

-- The content that replication sends for a leaf of tree s.
abbrev pub given : TreeValue → RevId → ContentValue
given s leaf = record {
  deleted = is_deleted s leaf;
  body = option_map_or (λ (x : ContentValue). x.body) (get s.contents leaf) [];
}

pub given_is : (s : TreeValue) (leaf : RevId) (b : ContentValue) → get s.contents leaf ≡ Some b → given s leaf ≡ b
given_is s leaf b h = λ i. record {
  deleted = option_map_or (λ (x : ContentValue). x.deleted) (h i) false;
  body = option_map_or (λ (x : ContentValue). x.body) (h i) [];
}

-- If the ancestry of a leaf of tree s is merged into a tree, the only content to add is the content that replication
-- sends for the leaf.
pub at_leaf : (s : TreeValue) (leaf q : RevId) → is_some (find rev_cmp q (at_head (ancestors s leaf) (given s leaf))) ≡ true → (q ≡ leaf) × (find rev_cmp q (at_head (ancestors s leaf) (given s leaf)) ≡ Some (given s leaf))
at_leaf s leaf q h =
    let begins = walk_begins s.parents leaf.generation leaf in
    let at : find rev_cmp q (at_head (ancestors s leaf) (given s leaf)) ≡ cond (eq_by_cmp rev_cmp q leaf) (Some (given s leaf)) None = ap (λ w. find rev_cmp q (at_head w (given s leaf))) begins.1 in
    (elim (eq_by_cmp rev_cmp q leaf) as (λ b. eq_by_cmp rev_cmp q leaf ≡ b → find rev_cmp q (at_head (ancestors s leaf) (given s leaf)) ≡ cond b (Some (given s leaf)) None → (q ≡ leaf) × (find rev_cmp q (at_head (ancestors s leaf) (given s leaf)) ≡ Some (given s leaf))) [
      | true ↦ λ tie e. (rev_tie_is q leaf tie, e)
      | false ↦ λ _ e. absurd (false≢true (sym (ap is_some e) ∙ h))
    ] refl at)

-- If tree t is a part of tree s, then t is still a part of s after adding a leaf of s and the leaf's ancestors.
module _ (s t : TreeValue) (tree : IsTree s) (part : IsPart s t) (leaf : RevId) (is : is_leaf s leaf ≡ true) (o : Origin) where
  abbrev revs : List RevId
  revs = ancestors s leaf

  abbrev grown : TreeValue
  grown = merged t revs (given s leaf) o

  known : has s leaf ≡ true
  known = (and_parts _ _ is).0

  parent_at : (q : RevId) → get grown.parents q ≡ option_or (get t.parents q) (find rev_cmp q (edges_of revs))
  parent_at q = get-joined t.parents (edges_of revs) q

  content_at : (q : RevId) → get grown.contents q ≡ option_or (get t.contents q) (find rev_cmp q (at_head revs (given s leaf)))
  content_at q = get-joined t.contents (at_head revs (given s leaf)) q

  absent_parent : (q : RevId) → has t q ≡ false → get t.parents q ≡ None
  absent_parent q h = none_is (get t.parents q) (λ p e. false≢true (sym h ∙ part.child q p e))

  -- Lemmas about the tree `grown`, which is tree t after adding the leaf `leaf` of tree s and the leaf's ancestors.
  brought_parent : (q : RevId) → is_among q revs ≡ true → get grown.parents q ≡ get s.parents q
  brought_parent q among =
      let edge : find rev_cmp q (edges_of revs) ≡ get s.parents q = edges_walked s tree leaf.generation leaf q known (omega arith) among in
      parent_at q ∙ ap (option_or (get t.parents q)) edge
      ∙ (elim (cases_Bool (has t q)) [
        | inl there ↦ ap (λ x. option_or x (get s.parents q)) (part.parents q there) ∙ or_twice (get s.parents q)
        | inr new ↦ ap (λ x. option_or x (get s.parents q)) (absent_parent q new)
      ])

  kept_parent : (q : RevId) → is_among q revs ≡ false → has t q ≡ true → get grown.parents q ≡ get s.parents q
  kept_parent q apart there = parent_at q ∙ ap (option_or (get t.parents q)) (edges_apart s tree leaf q known apart) ∙ or_none (get t.parents q) ∙ part.parents q there

  grown_parents : (q : RevId) → has grown q ≡ true → get grown.parents q ≡ get s.parents q
  grown_parents q h =
      elim (cases_Bool (is_among q revs)) [
        | inl among ↦ brought_parent q among
        | inr apart ↦ kept_parent q apart (elim (or_cases _ _ (sym (has-merged t revs (given s leaf) o q) ∙ h)) [ inl there ↦ there | inr among ↦ absurd (false≢true (sym apart ∙ among)) ])
      ]

  grown_edge : (c p : RevId) → get grown.parents c ≡ Some p → (has grown c ≡ true) × (has grown p ≡ true)
  grown_edge c p h =
      elim (some_or (get t.parents c) (find rev_cmp c (edges_of revs)) p (sym (parent_at c) ∙ h)) [
        | inl old ↦ (has-merged_known t revs (given s leaf) o c (part.child c p old), has-merged_known t revs (given s leaf) o p (part.parent c p old))
        | inr new ↦
            let edge = edge_found revs c p (IsAncestry-ancestors s tree leaf known).falls new.1 in
            (has-merged_given t revs (given s leaf) o c edge.child, has-merged_given t revs (given s leaf) o p edge.parent)
      ]

  grown_content : (q : RevId) → is_some (get grown.contents q) ≡ true → has grown q ≡ true
  grown_content q h =
      let b = some_told (get grown.contents q) h in
      elim (some_or (get t.contents q) (find rev_cmp q (at_head revs (given s leaf))) b.0 (sym (content_at q) ∙ b.1)) [
        | inl old ↦ has-merged_known t revs (given s leaf) o q (part.content q (told_some _ b.0 old))
        | inr new ↦
            let same = (at_leaf s leaf q (told_some _ b.0 new.1)).0 in
            has-merged_given t revs (given s leaf) o q (ap (λ x. is_among x revs) same ∙ own)
      ]
    where
      own : is_among leaf revs ≡ true
      own = let begins = walk_begins s.parents leaf.generation leaf in ap (is_among leaf) begins.1 ∙ ap (λ b. b || is_among leaf begins.0) (rev_tie_self leaf)

  grown_leaves : (q : RevId) → has grown q ≡ true → is_leaf s q ≡ true → get grown.contents q ≡ get s.contents q
  grown_leaves q h top =
      let b = some_told (get s.contents q) (tree.leaf q top) in
      elim (cases_Bool (has t q)) [
        | inl there ↦
            let old = part.leaves q there top in
            content_at q ∙ or_known (get t.contents q) _ (ap is_some old ∙ tree.leaf q top) ∙ old
        | inr new ↦
            let none : get t.contents q ≡ None = none_is (get t.contents q) (λ x e. false≢true (sym new ∙ part.content q (told_some _ x e))) in
            let among : is_among q revs ≡ true = elim (or_cases _ _ (sym (has-merged t revs (given s leaf) o q) ∙ h)) [ inl there ↦ absurd (false≢true (sym new ∙ there)) | inr among ↦ among ] in
            let head : is_some (find rev_cmp q (at_head revs (given s leaf))) ≡ true = elim (head_or_parent (given s leaf) revs q (IsAncestry-ancestors s tree leaf known).falls among) [
              | inl first ↦ first
              | inr below ↦
                  let edge = edge_found revs below.0 q (IsAncestry-ancestors s tree leaf known).falls below.1 in
                  let up : get s.parents below.0 ≡ Some q = sym (edges_walked s tree leaf.generation leaf below.0 known (omega arith) edge.child) ∙ below.1 in
                  absurd (false≢true (sym (ap not (parent_from_child s q below.0 up)) ∙ (and_parts _ _ top).1))
            ] in
            let at = at_leaf s leaf q head in
            content_at q ∙ ap (λ x. option_or x (find rev_cmp q (at_head revs (given s leaf)))) none ∙ at.1
            ∙ ap Some (given_is s leaf b.0 (ap (get s.contents) (sym at.0) ∙ b.1)) ∙ sym b.1
      ]

  pub part_merged : IsPart s (merged t (ancestors s leaf) (given s leaf) o)
  part_merged = record {
    within = λ q h. elim (or_cases _ _ (sym (has-merged t revs (given s leaf) o q) ∙ h)) [ inl there ↦ part.within q there | inr among ↦ has_walked s tree leaf.generation leaf q known among ];
    parents = grown_parents;
    child = λ c p h. (grown_edge c p h).0;
    parent = λ c p h. (grown_edge c p h).1;
    content = grown_content;
    leaves = grown_leaves;
  }

-- ---- the complete tree

-- If tree t is a part of tree s and has the revision x, then t also has each revision that a traversal of s from x
-- visits.
part_walked : (s t : TreeValue) → IsPart s t → (n : ℕ) (x r : RevId) → has t x ≡ true → is_among r (walk s.parents n x) ≡ true → has t r ≡ true
part_walked s t part zero x r there h = elim (or_cases _ _ h) [ inl tie ↦ ap (has t) (rev_tie_is r x tie) ∙ there | inr nothing ↦ absurd (false≢true nothing) ]
part_walked s t part (suc n) x r there h =
    elim (or_cases _ _ h) [
      | inl tie ↦ ap (has t) (rev_tie_is r x tie) ∙ there
      | inr later ↦ elim (get s.parents x) as (λ o. get s.parents x ≡ o → is_among r (option_map_or (walk s.parents n) o []) ≡ true → has t r ≡ true) [
        | None ↦ λ _ nothing. absurd (false≢true nothing)
        | Some p ↦ λ e more. part_walked s t part n p r (part.parent x p (part.parents x there ∙ e)) more
      ] refl later
    ]

-- A part of tree s that has all leaves of s is the complete tree.
pub whole_part : (s t : TreeValue) → IsTree s → IsPart s t → ((leaf : RevId) → is_leaf s leaf ≡ true → has t leaf ≡ true) → SameRevisions s t
whole_part s t tree part all = record {
  revs = same;
  edges = same_map rev_cmp_total rev_cmp_exact _ _ (λ q. elim (cases_Bool (has t q)) [
    | inl there ↦ sym (part.parents q there)
    | inr new ↦ none_is (get s.parents q) (λ p e. false≢true (sym new ∙ sym (same q) ∙ tree.child q p e)) ∙ sym (none_is (get t.parents q) (λ p e. false≢true (sym new ∙ part.child q p e)))
  ]);
  contents = λ leaf is. sym (part.leaves leaf (all leaf is) is);
}
  where
    same : (r : RevId) → has s r ≡ has t r
    same r = both_ways _ _ (λ h. let up = leaf_above s tree r h in part_walked s t part up.0.generation up.0 r (all up.0 up.1.leaf) up.1.above) (part.within r)
