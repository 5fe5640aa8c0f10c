-- The winner after a merge: the head, the previous winner, or another leaf.
use Rattle.proof_prelude.proofs.{◌≡◌, ℕ, ◌<◌, length, arith, List, [], ◌∷◌, Option, Some, None, true, false, not, cond, ◌||◌, ◌&&◌, is_some, inl, inr, ◌⊎◌, filter, slice_get, sym, ap, ◌∙◌, subst, refl, false≢true, or_cases, or_right, not-true, same_Some, list_any, option_map, option_map_or, eq_by_cmp, is_eq, is_lt, bool_cmp, ordering_reverse, ordering_then, IsTotalOrder, eq_by_cmp_equiv, get, keys, get-empty, Ordering, Less, Equal, Greater}
use Rattle.rev_core.specs.{RevId, rev_cmp, rev_tie_self, IsAncestry, edges_of, is_among}
use Rattle.rev_tree.specs.{ContentValue, in_order, first_of, first_of-placed, better, in_order-cons, in_order-nil, any-in_order, TreeValue, IsTree, at_head, first_contradiction, is_deleted, is_leaf, is_parent, leaf_cmp, leaves, merged, no_revisions, IsTree-merged, get-joined_known, has-merged_given, head_is, leaf_cases, any_agree, is_among-leaves, leaf_above, leaf_cmp_exact, leaf_cmp_total, leaf_tie, NodeValue, IsBestLeaf, IsLed, IsLinked, deletes, goes_before, place_of, revs_in, tree_of, AddsHead, Origin}
use Rattle.rev_tree.proofs.Places.{node_at, place_known, place_unknown, rev_at_place}
use Rattle.rev_tree.proofs.Lookups.{shows_itself, content_is, leaf_is}
use Rattle.rev_tree.proofs.Starts.{IsTree-no_revisions}
use Rattle.rev_tree.proofs.Views.{has-tree_of}

-- ---- orders

lt_is : (r : Ordering) → is_lt r ≡ true → r ≡ Less
lt_is Less h = refl
lt_is Equal h = absurd (false≢true h)
lt_is Greater h = absurd (false≢true h)

eq_is : (r : Ordering) → is_eq r ≡ true → r ≡ Equal
eq_is Less h = absurd (false≢true h)
eq_is Equal h = refl
eq_is Greater h = absurd (false≢true h)

not_lt : (r : Ordering) → (r ≡ Less → false ≡ true) → is_lt r ≡ false
not_lt Less h = absurd (false≢true (h refl))
not_lt Equal h = refl
not_lt Greater h = refl

-- if neither goes before the other, they are equal
both_ties : (r s : Ordering) → r ≡ ordering_reverse s → is_lt r ≡ false → is_lt s ≡ false → r ≡ Equal
both_ties Less s e h k = absurd (false≢true (sym h))
both_ties Equal s e h k = refl
both_ties Greater Less e h k = absurd (false≢true (sym k))
both_ties Greater Equal e h k = e
both_ties Greater Greater e h k = absurd (false≢true (ap is_lt e))

module _ {K : Type 0} {R : K → K → Ordering} (o : IsTotalOrder R) where
  tied : (x y : K) → is_lt (R x y) ≡ false → is_lt (R y x) ≡ false → R x y ≡ Equal
  tied x y h k = both_ties (R x y) (R y x) (o.antisymm x y) h k

  -- if h goes before w, w is not after the first element f, and h is not before f, then h is equal to f
  head_tie : (f h w : K) → is_lt (R f w) ≡ false → R h w ≡ Less → is_lt (R h f) ≡ false → R h f ≡ Equal
  head_tie f h w low before least =
      tied h f least (not_lt (R f h) (λ e. sym low ∙ ap is_lt (o.trans f h w e before)))

  -- the first of a sorted list is an element, and no element goes before it
  pub record IsFirst (xs : List K) (f : K) : Type 0 where
    pub among : list_any (eq_by_cmp R f) xs ≡ true
    pub least : (x : K) → list_any (eq_by_cmp R x) xs ≡ true → is_lt (R x f) ≡ false

  nothing_first : (l : List K) → first_of l ≡ None → l ≡ []
  nothing_first [] h = refl
  nothing_first (x ∷ l) h = absurd (false≢true (sym (ap is_some h)))

  self_tie : (x : K) → eq_by_cmp R x x ≡ true
  self_tie x = (eq_by_cmp_equiv o).refl x

  tie_no_less : (x y : K) → eq_by_cmp R x y ≡ true → is_lt (R x y) ≡ false
  tie_no_less x y e = ap is_lt (eq_is (R x y) e)

  -- one element before the others
  itself : (y : K) (xs : List K) → list_any (eq_by_cmp R y) (y ∷ xs) ≡ true
  itself y xs = ap (λ b. b || list_any (eq_by_cmp R y) xs) (self_tie y)

  first_alone : (y : K) (xs : List K) → first_of (in_order R xs) ≡ None → IsFirst (y ∷ xs) y
  first_alone y xs none =
      let nobody = λ (x : K). sym (any-in_order o xs x) ∙ ap (list_any (eq_by_cmp R x)) (nothing_first (in_order R xs) none) in
      record {
        among = itself y xs;
        least = λ x h. elim (or_cases _ _ h) [
          | inl tie ↦ tie_no_less x y tie
          | inr later ↦ absurd (false≢true (sym (nobody x) ∙ later))
        ];
      }

  first_before : (y g : K) (xs : List K) → IsFirst xs g → R y g ≡ Less → IsFirst (y ∷ xs) y
  first_before y g xs later before = record {
    among = itself y xs;
    least = λ x h. elim (or_cases _ _ h) [
      | inl tie ↦ tie_no_less x y tie
      | inr more ↦ not_lt (R x y) (λ e. sym (later.least x more) ∙ ap is_lt (o.trans x y g e before))
    ];
  }

  first_later : (y g : K) (xs : List K) → IsFirst xs g → is_lt (R y g) ≡ false → IsFirst (y ∷ xs) g
  first_later y g xs later low = record {
    among = or_right _ _ later.among;
    least = λ x h. elim (or_cases _ _ h) [
      | inl tie ↦ ap is_lt (o.congr x y g (eq_is (R x y) tie)) ∙ low
      | inr more ↦ later.least x more
    ];
  }

  first_step : (y : K) (xs : List K) → ((g : K) → first_of (in_order R xs) ≡ Some g → IsFirst xs g) → (b : Option K) → first_of (in_order R xs) ≡ b → IsFirst (y ∷ xs) (better R b y)
  first_step y xs ih None e = first_alone y xs e
  first_step y xs ih (Some g) e =
      elim (is_lt (R y g)) as (λ b. is_lt (R y g) ≡ b → IsFirst (y ∷ xs) (cond b y g)) [
        | true ↦ λ h. first_before y g xs (ih g e) (lt_is (R y g) h)
        | false ↦ λ h. first_later y g xs (ih g e) h
      ] refl

  pub first_is : (xs : List K) (f : K) → first_of (in_order R xs) ≡ Some f → IsFirst xs f
  first_is [] f h = absurd (false≢true (sym (ap (λ l. is_some (first_of l)) (in_order-nil R)) ∙ ap is_some h))
  first_is (y ∷ xs) f h =
      let e = sym (first_of-placed R y (in_order R xs)) ∙ ap first_of (sym (in_order-cons o y xs)) ∙ h in
      subst (IsFirst (y ∷ xs)) (same_Some (better R (first_of (in_order R xs)) y) f e)
      (first_step y xs (λ g k. first_is xs g k) (first_of (in_order R xs)) refl)

-- ---- the winner

-- the winner is a leaf, and no leaf goes before it
pub record IsWinner (t : TreeValue) (f : RevId) : Type 0 where
  pub leaf : is_leaf t f ≡ true
  pub least : (r : RevId) → is_leaf t r ≡ true → is_lt (leaf_cmp t r f) ≡ false

known_leaf : (t : TreeValue) (r : RevId) → list_any (eq_by_cmp (leaf_cmp t) r) (filter (is_leaf t) (keys t.origins)) ≡ is_leaf t r
known_leaf t r =
    sym (any-in_order (leaf_cmp_total t) (filter (is_leaf t) (keys t.origins)) r)
    ∙ any_agree (eq_by_cmp (leaf_cmp t) r) (eq_by_cmp rev_cmp r) (leaf_tie t r) (leaves t)
    ∙ is_among-leaves t r

pub winner_is : (t : TreeValue) (f : RevId) → first_of (leaves t) ≡ Some f → IsWinner t f
winner_is t f h =
    let first = first_is (leaf_cmp_total t) (filter (is_leaf t) (keys t.origins)) f h in
    record {
      leaf = sym (known_leaf t f) ∙ first.among;
      least = λ r leaf. first.least r (known_leaf t r ∙ leaf);
    }

some_first : (r : RevId) (l : List RevId) → is_among r l ≡ true → (f : RevId) × (first_of l ≡ Some f)
some_first r [] h = absurd (false≢true h)
some_first r (x ∷ l) h = (x, refl)

-- if there is a leaf, there is a winner
pub some_winner : (t : TreeValue) (r : RevId) → is_leaf t r ≡ true → (f : RevId) × (first_of (leaves t) ≡ Some f)
some_winner t r leaf = some_first r (leaves t) (is_among-leaves t r ∙ leaf)

module _ (t u : TreeValue) (h : RevId) (adds : AddsHead t u h) where
  -- the order of two old leaves stays the same
  order_kept : (a b : RevId) → is_leaf t a ≡ true → is_leaf t b ≡ true → leaf_cmp u a b ≡ leaf_cmp t a b
  order_kept a b x y = λ i. ordering_then (bool_cmp (adds.deleted a x i) (adds.deleted b y i)) (rev_cmp b a)

  -- no old leaf goes before the previous winner
  none_before : (w f : RevId) → IsWinner t w → is_leaf t f ≡ true → is_lt (leaf_cmp u f w) ≡ false
  none_before w f won old = ap is_lt (order_kept f w old won.leaf) ∙ won.least f old

  -- the head wins if it goes before the previous winner
  pub head_wins : (w : RevId) → first_of (leaves t) ≡ Some w → is_leaf u h ≡ true → leaf_cmp u h w ≡ Less → first_of (leaves u) ≡ Some h
  head_wins w first leaf before =
      let f = some_winner u h leaf in
      let won = winner_is u f.0 f.1 in
      f.1 ∙ ap Some (elim (adds.leaf f.0 won.leaf) as (λ _. f.0 ≡ h) [
        | inl old ↦
            sym (leaf_cmp_exact u h f.0
            (head_tie (leaf_cmp_total u) f.0 h w (none_before w f.0 (winner_is t w first) old) before (won.least h leaf)))
        | inr is ↦ is
      ])

  -- the previous winner stays if it is still a leaf and the head does not go before it
  pub winner_stays : (w : RevId) → first_of (leaves t) ≡ Some w → is_leaf u w ≡ true → (is_leaf u h ≡ true → is_lt (leaf_cmp u h w) ≡ false) → first_of (leaves u) ≡ Some w
  winner_stays w first leaf behind =
      let f = some_winner u w leaf in
      let won = winner_is u f.0 f.1 in
      let low : is_lt (leaf_cmp u f.0 w) ≡ false = elim (adds.leaf f.0 won.leaf) as (λ _. is_lt (leaf_cmp u f.0 w) ≡ false) [
        | inl old ↦ none_before w f.0 (winner_is t w first) old
        | inr is ↦ ap (λ x. is_lt (leaf_cmp u x w)) is ∙ behind (sym (ap (is_leaf u) is) ∙ won.leaf)
      ] in
      f.1 ∙ ap Some (leaf_cmp_exact u f.0 w (tied (leaf_cmp_total u) f.0 w low (won.least w leaf)))

  -- the head wins if there was no leaf
  pub head_alone : ((r : RevId) → is_leaf t r ≡ false) → first_of (leaves u) ≡ Some h
  head_alone none =
      let f = some_winner u adds.some.0 adds.some.1 in
      let won = winner_is u f.0 f.1 in
      f.1 ∙ ap Some (elim (adds.leaf f.0 won.leaf) as (λ _. f.0 ≡ h) [
        | inl old ↦ absurd (false≢true (sym (none f.0) ∙ old))
        | inr is ↦ is
      ])

-- an ancestry adds its head
pub adds_head : (t : TreeValue) (revs : List RevId) (b : ContentValue) (o : Origin) (h : RevId) → IsTree t → IsAncestry revs → first_contradiction t.parents (edges_of revs) ≡ None → first_of revs ≡ Some h → AddsHead t (merged t revs b o) h
adds_head t revs b o h tree ancestry none head = record {
  leaf = λ r leaf. elim (leaf_cases t revs b o tree ancestry none r leaf) as (λ _. (is_leaf t r ≡ true) ⊎ (r ≡ h)) [
    | inl old ↦ inl old
    | inr first ↦ inr (same_Some r h (sym (head_is b revs r first) ∙ head))
  ];
  deleted = λ r leaf. kept r (tree.leaf r leaf);
  some =
      let up = leaf_above (merged t revs b o) (IsTree-merged t revs b o tree ancestry none) h (has-merged_given t revs b o h (head_there revs head)) in
      (up.0, up.1.leaf);
}
  where
    head_there : (l : List RevId) → first_of l ≡ Some h → is_among h l ≡ true
    head_there [] e = absurd (false≢true (ap is_some e))
    head_there (x ∷ l) e = ap (λ q. is_among h (q ∷ l)) (same_Some x h e) ∙ ap (λ c. c || is_among h l) (rev_tie_self h)

    kept : (r : RevId) → is_some (get t.contents r) ≡ true → is_deleted (merged t revs b o) r ≡ is_deleted t r
    kept r some =
        elim (get t.contents r) as (λ c. get t.contents r ≡ c → is_some c ≡ true → is_deleted (merged t revs b o) r ≡ option_map_or (λ (x : ContentValue). x.deleted) c false) [
          | None ↦ λ _ no. absurd (false≢true no)
          | Some x ↦ λ e _. ap (λ c. option_map_or (λ (x : ContentValue). x.deleted) c false) (get-joined_known t.contents (at_head revs b) r x e)
        ] refl some

-- the empty tree has no leaf
pub no_leaf : (r : RevId) → is_leaf no_revisions r ≡ false
no_leaf r = ap (λ c. is_some c && not (is_parent no_revisions r)) (get-empty rev_cmp r)

-- ---- nodes by index

module _ (nodes : List NodeValue) (linked : IsLinked nodes) (k : ℕ) (n : NodeValue) (at : slice_get nodes k ≡ Some n) where
  pub leaf_at : is_leaf (tree_of nodes) n.rev ≡ not n.has_child
  leaf_at = leaf_is nodes (tree_of nodes) n.rev (Some n) linked (shows_itself nodes) (node_at nodes linked.once k n at)

  pub deleted_at : is_deleted (tree_of nodes) n.rev ≡ deletes n
  deleted_at = ap (λ c. option_map_or (λ (x : ContentValue). x.deleted) c false) (content_is nodes (tree_of nodes) n.rev (Some n) linked (shows_itself nodes) (node_at nodes linked.once k n at))

  pub goes_before_at : (j : ℕ) (m : NodeValue) → slice_get nodes j ≡ Some m → goes_before n (Some m) ≡ is_lt (leaf_cmp (tree_of nodes) n.rev m.rev)
  goes_before_at j m there =
      let other = ap (λ c. option_map_or (λ (x : ContentValue). x.deleted) c false) (content_is nodes (tree_of nodes) m.rev (Some m) linked (shows_itself nodes) (node_at nodes linked.once j m there)) in
      λ i. is_lt (ordering_then (bool_cmp (sym deleted_at i) (sym other i)) (rev_cmp m.rev n.rev))

-- ---- after an ancestry was inserted

pub first_at : (l : List RevId) → slice_get l 0 ≡ first_of l
first_at [] = refl
first_at (x ∷ l) = refl

pub some_head : (l : List RevId) → 0 < length l → (h : RevId) × (first_of l ≡ Some h)
some_head [] h = absurd (omega arith)
some_head (x ∷ l) h = (x, refl)

-- the revision of the node at an index
pub rev_of_place : (nodes : List NodeValue) (k : ℕ) (r : RevId) (best : Option NodeValue) → ((n : NodeValue) → best ≡ Some n → slice_get nodes k ≡ Some n) → option_map (λ (n : NodeValue). n.rev) best ≡ Some r → slice_get (revs_in nodes) k ≡ Some r
rev_of_place nodes k r None at e = absurd (false≢true (ap is_some e))
rev_of_place nodes k r (Some n) at e = rev_at_place nodes k n (at n refl) ∙ e

-- in an empty tree, the head's node is the first
pub first_put : (old new : List NodeValue) (revs : List RevId) (b : ContentValue) (o : Origin) → old ≡ [] → IsTree (tree_of old) → IsAncestry revs → first_contradiction (tree_of old).parents (edges_of revs) ≡ None
    → tree_of new ≡ merged (tree_of old) revs b o → revs_in new ≡ revs → slice_get (revs_in new) 0 ≡ first_of (leaves (tree_of new))
first_put old new revs b o empty tree ancestry none is same =
    let t = tree_of old in
    let h = some_head revs ancestry.nonempty in
    let adds = subst (λ u. AddsHead t u h.0) (sym is) (adds_head t revs b o h.0 tree ancestry none h.1) in
    ap (λ l. slice_get l 0) same ∙ first_at revs ∙ h.1 ∙ sym (head_alone t (tree_of new) h.0 adds (λ r. ap (λ l. is_leaf (tree_of l) r) empty ∙ no_leaf r))

-- if there is a node, there is a winner
pub led_winner : (nodes : List NodeValue) (best : ℕ) → IsLinked nodes → IsLed nodes best → 0 < length nodes → (w : RevId) × (first_of (leaves (tree_of nodes)) ≡ Some w)
led_winner [] best linked led some = absurd (omega arith)
led_winner (n ∷ nodes) best linked led some =
    let known = has-tree_of (n ∷ nodes) linked.once n.rev ∙ ap is_some (node_at (n ∷ nodes) linked.once 0 n refl) in
    let up = leaf_above (tree_of (n ∷ nodes)) led.tree n.rev known in
    some_winner (tree_of (n ∷ nodes)) up.0 up.1.leaf

-- an empty tree has no winner
no_winner : (o : Option RevId) → first_of (leaves no_revisions) ≡ o → None ≡ o
no_winner None e = refl
no_winner (Some f) e = absurd (false≢true (sym (no_leaf f) ∙ (winner_is no_revisions f e).leaf))

pub IsLed-none : IsLed [] 0
IsLed-none = record { tree = IsTree-no_revisions; first = no_winner (first_of (leaves no_revisions)) refl }

module _ (nodes : List NodeValue) (linked : IsLinked nodes) (k j : ℕ) (old new : NodeValue) (at_old : slice_get nodes k ≡ Some old) (at_new : slice_get nodes j ≡ Some new) (t : TreeValue) (w h : RevId)
    (first : first_of (leaves t) ≡ Some w) (before : slice_get (revs_in nodes) k ≡ Some w) (head : slice_get (revs_in nodes) j ≡ Some h) (adds : AddsHead t (tree_of nodes) h) where
  old_is : old.rev ≡ w
  old_is = same_Some old.rev w (sym (rev_at_place nodes k old at_old) ∙ before)

  new_is : new.rev ≡ h
  new_is = same_Some new.rev h (sym (rev_at_place nodes j new at_new) ∙ head)

  head_leaf : is_leaf (tree_of nodes) h ≡ not new.has_child
  head_leaf = ap (is_leaf (tree_of nodes)) (sym new_is) ∙ leaf_at nodes linked j new at_new

  head_before : is_lt (leaf_cmp (tree_of nodes) h w) ≡ goes_before new (Some old)
  head_before = (λ i. is_lt (leaf_cmp (tree_of nodes) (sym new_is i) (sym old_is i))) ∙ sym (goes_before_at nodes linked j new at_new k old at_old)

  pub after_head : new.has_child ≡ false → goes_before new (Some old) ≡ true → slice_get (revs_in nodes) j ≡ first_of (leaves (tree_of nodes))
  after_head leaf before_old =
      head ∙ sym (head_wins t (tree_of nodes) h adds w first (head_leaf ∙ ap not leaf) (lt_is _ (head_before ∙ before_old)))

  pub after_stays : old.has_child ≡ false → (new.has_child ≡ false → goes_before new (Some old) ≡ false) → slice_get (revs_in nodes) k ≡ first_of (leaves (tree_of nodes))
  after_stays leaf behind =
      before ∙ sym (winner_stays t (tree_of nodes) h adds w first (ap (is_leaf (tree_of nodes)) (sym old_is) ∙ leaf_at nodes linked k old at_old ∙ ap not leaf)
      (λ new_leaf. head_before ∙ behind (not-true _ (sym head_leaf ∙ new_leaf))))

pub after_lookup : (nodes : List NodeValue) (t : TreeValue) (h : RevId) → AddsHead t (tree_of nodes) h → (i : ℕ)
    → ((r : RevId) → first_of (leaves (tree_of nodes)) ≡ Some r → slice_get (revs_in nodes) i ≡ Some r) → slice_get (revs_in nodes) i ≡ first_of (leaves (tree_of nodes))
after_lookup nodes t h adds i found =
    let f = some_winner (tree_of nodes) adds.some.0 adds.some.1 in
    found f.0 f.1 ∙ sym f.1

-- the best leaf of the nodes is the winner
pub best_wins : (nodes : List NodeValue) → IsLinked nodes → (p : ℕ) → IsBestLeaf nodes p → (r : RevId) → first_of (leaves (tree_of nodes)) ≡ Some r → slice_get (revs_in nodes) p ≡ Some r
best_wins nodes linked p b r first =
    rev_at_place nodes p b.node b.at ∙ ap Some (leaf_cmp_exact (tree_of nodes) b.node.rev r (tied (leaf_cmp_total (tree_of nodes)) b.node.rev r low high))
  where
    won : IsWinner (tree_of nodes) r
    won = winner_is (tree_of nodes) r first

    low : is_lt (leaf_cmp (tree_of nodes) b.node.rev r) ≡ false
    low = won.least b.node.rev (leaf_at nodes linked p b.node b.at ∙ ap not b.leaf)

    go : (o : Option ℕ) → place_of nodes r ≡ o → is_lt (leaf_cmp (tree_of nodes) r b.node.rev) ≡ false
    go None e = absurd (false≢true (sym (leaf_is nodes (tree_of nodes) r None linked (shows_itself nodes) (place_unknown nodes r e)) ∙ won.leaf))
    go (Some j) e =
        let n = place_known nodes r j e in
        let leaf : n.node.has_child ≡ false = not-true _ (sym (leaf_at nodes linked j n.node n.at) ∙ ap (is_leaf (tree_of nodes)) n.rev ∙ won.leaf) in
        ap (λ q. is_lt (leaf_cmp (tree_of nodes) q b.node.rev)) (sym n.rev) ∙ sym (goes_before_at nodes linked j n.node n.at p b.node b.at) ∙ b.best j n.node n.at leaf

    high : is_lt (leaf_cmp (tree_of nodes) r b.node.rev) ≡ false
    high = go (place_of nodes r) refl
