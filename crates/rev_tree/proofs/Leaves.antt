-- The leaves among the nodes: counted, sorted, and the first.
use Rattle.proof_prelude.proofs.{◌≡◌, ℕ, zero, suc, ◌+◌, ◌<◌, ◌≤◌, ◌&&◌, ◌++◌, ◌∷◌, [], List, Bool, true, false, cond, not, length, take, drop, get_or, filter, sym, ap, ◌∙◌, subst, Option, Some, None, is_some, refl, arith, add-one, false≢true, or_parts, list_any, list_any-IsPermutation, length_permutation, eq_by_cmp, is_lt, is_eq, bool_cmp, ordering_reverse, ordering_then, IsTotalOrder, keys, contains_key-keys, IsAntisymmetric, by_order, take_more, map-append, filter-append, option_map, option_map_or, option_to_list, same_Some, IsSortedBy, IsPermutation, Ordering, Less, Equal, Greater, take_all, take-append-drop, append-nil, length-append}
use Rattle.rev_core.specs.{RevId, rev_cmp}
use Rattle.rev_tree.specs.{in_order, placed, first_of, first_of-placed, better, only_of, same_in_order, in_order-push, in_order-cons, in_order-nil, length-placed, TreeValue, is_leaf, is_deleted, leaf_cmp, leaves, ContentValue, leaf_cmp_total, leaf_cmp_exact, leaf_tie, any_agree, any_filter, revs_in, deletes, goes_before, Distinct, IsLinked, NodeValue}
use Rattle.rev_tree.proofs.Places.{is_some-node_of, node_at, read_at}
use Rattle.rev_tree.proofs.Lookups.{Shows, leaf_is, content_is}
use Rattle.rev_tree.proofs.Views.{has-tree_of}

pub revs_more : (nodes : List NodeValue) (i : ℕ) (n : NodeValue) → i < length nodes → n ≡ get_or nodes i n → revs_in (take (i + 1) nodes) ≡ revs_in (take i nodes) ++ n.rev ∷ []
revs_more nodes i n low is =
    ap revs_in (take_more nodes i n low ∙ ap (λ x. take i nodes ++ x ∷ []) (sym is))
    ∙ map-append (λ (x : NodeValue). x.rev) (take i nodes) (n ∷ [])

-- the flag of a node says whether its revision is a leaf
pub leaf_item : (nodes items : List NodeValue) (t : TreeValue) → IsLinked nodes → Shows nodes t → items ≡ nodes → (i : ℕ) (n : NodeValue) → i < length items → n ≡ get_or items i n → is_leaf t n.rev ≡ not n.has_child
leaf_item nodes items t linked view same i n low is =
    leaf_is nodes t n.rev (Some n) linked view
    (node_at nodes linked.once i n (read_at nodes i n (subst (λ l. i < length l) same low) (subst (λ l. n ≡ get_or l i n) same is)))

-- the content of a node says whether its revision deletes
pub deleted_item : (nodes items : List NodeValue) (t : TreeValue) → IsLinked nodes → Shows nodes t → items ≡ nodes → (i : ℕ) (n : NodeValue) → i < length items → n ≡ get_or items i n → is_deleted t n.rev ≡ deletes n
deleted_item nodes items t linked view same i n low is =
    ap (λ o. option_map_or (λ (b : ContentValue). b.deleted) o false)
    (content_is nodes t n.rev (Some n) linked view
    (node_at nodes linked.once i n (read_at nodes i n (subst (λ l. i < length l) same low) (subst (λ l. n ≡ get_or l i n) same is))))

-- the leaves so far, and one more node
pub leaves_pushed : (t : TreeValue) (nodes : List NodeValue) (i : ℕ) (n : NodeValue) → i < length nodes → n ≡ get_or nodes i n → filter (is_leaf t) (revs_in (take (i + 1) nodes)) ≡ filter (is_leaf t) (revs_in (take i nodes)) ++ cond (is_leaf t n.rev) (n.rev ∷ []) []
leaves_pushed t nodes i n low is = ap (filter (is_leaf t)) (revs_more nodes i n low is) ∙ filter-append (is_leaf t) (revs_in (take i nodes)) (n.rev ∷ [])

-- one more revision: a leaf is inserted, any other is skipped
pub leaves_more : (t : TreeValue) (nodes : List NodeValue) (i : ℕ) (n : NodeValue) → i < length nodes → n ≡ get_or nodes i n
    → in_order (leaf_cmp t) (filter (is_leaf t) (revs_in (take (i + 1) nodes)))
    ≡ cond (is_leaf t n.rev) (placed (leaf_cmp t) n.rev (in_order (leaf_cmp t) (filter (is_leaf t) (revs_in (take i nodes))))) (in_order (leaf_cmp t) (filter (is_leaf t) (revs_in (take i nodes))))
leaves_more t nodes i n low is =
    let before = filter (is_leaf t) (revs_in (take i nodes)) in
    ap (in_order (leaf_cmp t)) (leaves_pushed t nodes i n low is)
    ∙ elim (is_leaf t n.rev) as (λ b. in_order (leaf_cmp t) (before ++ cond b (n.rev ∷ []) []) ≡ cond b (placed (leaf_cmp t) n.rev (in_order (leaf_cmp t) before)) (in_order (leaf_cmp t) before)) [
      | true ↦ in_order-push (leaf_cmp_total t) (leaf_cmp_exact t) before n.rev
      | false ↦ ap (in_order (leaf_cmp t)) (append-nil before)
    ]

-- the nodes include all leaves
pub leaves_of_nodes : (nodes : List NodeValue) (t : TreeValue) → IsLinked nodes → Shows nodes t → in_order (leaf_cmp t) (filter (is_leaf t) (revs_in nodes)) ≡ leaves t
leaves_of_nodes nodes t linked view =
    same_in_order (leaf_cmp_total t) (leaf_cmp_exact t) (filter (is_leaf t) (revs_in nodes)) (filter (is_leaf t) (keys t.origins)) (λ q.
    any_agree (eq_by_cmp (leaf_cmp t) q) (eq_by_cmp rev_cmp q) (leaf_tie t q) (filter (is_leaf t) (revs_in nodes))
    ∙ any_filter (is_leaf t) q (revs_in nodes)
    ∙ ap (λ b. b && is_leaf t q) (sym (is_some-node_of nodes q) ∙ sym (has-tree_of nodes linked.once q) ∙ view.has q ∙ contains_key-keys t.origins q)
    ∙ sym (any_filter (is_leaf t) q (keys t.origins))
    ∙ any_agree (eq_by_cmp rev_cmp q) (eq_by_cmp (leaf_cmp t) q) (λ x. sym (leaf_tie t q x)) (filter (is_leaf t) (keys t.origins)))

-- ---- the first

-- the node is that of the first leaf, with its deleted flag
pub record IsBest (t : TreeValue) (ordered : List RevId) (best : Option NodeValue) : Type 0 where
  pub first : option_map (λ (n : NodeValue). n.rev) best ≡ first_of ordered
  pub told : (n : NodeValue) → best ≡ Some n → is_deleted t n.rev ≡ deletes n

pub best_none : (t : TreeValue) → IsBest t (in_order (leaf_cmp t) []) None
best_none t = record { first = ap first_of (sym (in_order-nil (leaf_cmp t))); told = λ n e. absurd (false≢true (ap is_some e)) }

pub best_placed : (t : TreeValue) (xs : List RevId) (best : Option NodeValue) (n : NodeValue) → is_deleted t n.rev ≡ deletes n → IsBest t xs best → IsBest t (placed (leaf_cmp t) n.rev xs) (cond (goes_before n best) (Some n) best)
best_placed t xs None n h best = record {
  first = ap (λ o. Some (better (leaf_cmp t) o n.rev)) best.first ∙ sym (first_of-placed (leaf_cmp t) n.rev xs);
  told = λ m e. subst (λ (x : NodeValue). is_deleted t x.rev ≡ deletes x) (same_Some n m e) h;
}
best_placed t xs (Some a) n h best =
    let same : goes_before n (Some a) ≡ is_lt (leaf_cmp t n.rev a.rev) = λ i. is_lt (ordering_then (bool_cmp (sym h i) (sym (best.told a refl) i)) (rev_cmp a.rev n.rev)) in
    record {
      first =
          one (goes_before n (Some a)) ∙ ap (λ b. Some (cond b n.rev a.rev)) same ∙ ap (λ o. Some (better (leaf_cmp t) o n.rev)) best.first
          ∙ sym (first_of-placed (leaf_cmp t) n.rev xs);
      told = λ m e. of_one (goes_before n (Some a)) m e;
    }
  where
    one : (b : Bool) → option_map (λ (x : NodeValue). x.rev) (cond b (Some n) (Some a)) ≡ Some (cond b n.rev a.rev)
    one true = refl
    one false = refl

    of_one : (b : Bool) (m : NodeValue) → cond b (Some n) (Some a) ≡ Some m → is_deleted t m.rev ≡ deletes m
    of_one true m e = subst (λ (x : NodeValue). is_deleted t x.rev ≡ deletes x) (same_Some n m e) h
    of_one false m e = best.told m e

pub best_of_all : (nodes items : List NodeValue) (t : TreeValue) → IsLinked nodes → Shows nodes t → items ≡ nodes → (k : ℕ) (best : Option NodeValue) → length items ≤ k
    → IsBest t (in_order (leaf_cmp t) (filter (is_leaf t) (revs_in (take k items)))) best → option_map (λ (n : NodeValue). n.rev) best ≡ first_of (leaves t)
best_of_all nodes items t linked view same k best all h =
    h.first ∙ ap (λ l. first_of (in_order (leaf_cmp t) (filter (is_leaf t) (revs_in l)))) (take_all k items all ∙ same) ∙ ap first_of (leaves_of_nodes nodes t linked view)

-- ---- the number of leaves

pub count_once : (t : TreeValue) (revs : List RevId) → Distinct revs → length (in_order (leaf_cmp t) (filter (is_leaf t) revs)) ≡ length (filter (is_leaf t) revs)
count_once t [] once = ap length (in_order-nil (leaf_cmp t))
count_once t (r ∷ revs) once =
    let rest = filter (is_leaf t) revs in
    elim (is_leaf t r) as (λ b. length (in_order (leaf_cmp t) (cond b (r ∷ rest) rest)) ≡ length (cond b (r ∷ rest) rest)) [
      | true ↦
          ap length (in_order-cons (leaf_cmp_total t) r rest)
          ∙ length-placed (leaf_cmp_total t) r rest
          ∙ ap (λ b. cond b (length (in_order (leaf_cmp t) rest)) (length (in_order (leaf_cmp t) rest) + 1))
          (any_agree (eq_by_cmp (leaf_cmp t) r) (eq_by_cmp rev_cmp r) (leaf_tie t r) rest ∙ any_filter (is_leaf t) r revs ∙ ap (λ b. b && is_leaf t r) once.0)
          ∙ ap (λ n. n + 1) (count_once t revs once.1) ∙ omega arith
      | false ↦ count_once t revs once.1
    ]

pub length-leaves : (nodes : List NodeValue) (t : TreeValue) → IsLinked nodes → Shows nodes t → length (leaves t) ≡ length (filter (is_leaf t) (revs_in nodes))
length-leaves nodes t linked view = ap length (sym (leaves_of_nodes nodes t linked view)) ∙ count_once t (revs_in nodes) linked.once

pub count_more : (t : TreeValue) (nodes : List NodeValue) (i : ℕ) (n : NodeValue) → i < length nodes → n ≡ get_or nodes i n → length (filter (is_leaf t) (revs_in (take (i + 1) nodes))) ≡ length (filter (is_leaf t) (revs_in (take i nodes))) + cond (is_leaf t n.rev) 1 0
count_more t nodes i n low is =
    let before = filter (is_leaf t) (revs_in (take i nodes)) in
    ap length (leaves_pushed t nodes i n low is)
    ∙ length-append before (cond (is_leaf t n.rev) (n.rev ∷ []) [])
    ∙ ap (λ k. length before + k) (elim (is_leaf t n.rev) as (λ b. length (cond b (n.rev ∷ []) []) ≡ cond b 1 0) [ true ↦ refl | false ↦ refl ])

-- ---- a single leaf

pub none_there : (found : Option RevId) → is_some found ≡ false → found ≡ None
none_there None e = refl
none_there (Some r) e = absurd (false≢true (sym e))

two_are_not_one : (xs : List RevId) → 1 < length xs → None ≡ only_of xs
two_are_not_one [] two = absurd (omega (arith, two))
two_are_not_one (x ∷ []) two = absurd (omega (arith, two))
two_are_not_one (x ∷ (y ∷ xs)) two = refl

-- a prefix of the nodes has no more leaves than all nodes
as_many : (t : TreeValue) (nodes : List NodeValue) (k : ℕ) → length (filter (is_leaf t) (revs_in (take k nodes))) ≤ length (filter (is_leaf t) (revs_in nodes))
as_many t nodes k =
    let first = revs_in (take k nodes) in
    let rest = revs_in (drop k nodes) in
    let e : length (filter (is_leaf t) (revs_in nodes)) ≡ length (filter (is_leaf t) first) + length (filter (is_leaf t) rest) =
    ap (λ l. length (filter (is_leaf t) (revs_in l))) (sym (take-append-drop k nodes))
    ∙ ap (λ l. length (filter (is_leaf t) l)) (map-append (λ (x : NodeValue). x.rev) (take k nodes) (drop k nodes))
    ∙ ap length (filter-append (is_leaf t) first rest)
    ∙ length-append (filter (is_leaf t) first) (filter (is_leaf t) rest) in
    omega (arith, e)

-- with a second leaf there is no single leaf
pub second_leaf : (nodes : List NodeValue) (t : TreeValue) → IsLinked nodes → Shows nodes t → (i : ℕ) (n : NodeValue) (found : Option RevId) → i < length nodes → n ≡ get_or nodes i n → filter (is_leaf t) (revs_in (take i nodes)) ≡ option_to_list found → is_some found ≡ true → is_leaf t n.rev ≡ true → None ≡ only_of (leaves t)
second_leaf nodes t linked view i n found low is before some leaf =
    let more = count_more t nodes i n low is ∙ ap (λ b. length (filter (is_leaf t) (revs_in (take i nodes))) + cond b 1 0) leaf in
    let one = ap length before ∙ one_of found some in
    let all = as_many t nodes (i + 1) in
    let same = length-leaves nodes t linked view in
    two_are_not_one (leaves t) (omega (arith, more, one, all, same))
  where
    one_of : (o : Option RevId) → is_some o ≡ true → length (option_to_list o) ≡ 1
    one_of None e = absurd (false≢true e)
    one_of (Some r) e = refl

-- the leaves of all nodes, if there is at most one
pub lone_leaf : (nodes : List NodeValue) (t : TreeValue) → IsLinked nodes → Shows nodes t → (found : Option RevId) → filter (is_leaf t) (revs_in nodes) ≡ option_to_list found → found ≡ only_of (leaves t)
lone_leaf nodes t linked view found e = sym (ap only_of (sym (leaves_of_nodes nodes t linked view) ∙ ap (in_order (leaf_cmp t)) e ∙ ordered found) ∙ only found)
  where
    ordered : (o : Option RevId) → in_order (leaf_cmp t) (option_to_list o) ≡ option_to_list o
    ordered None = in_order-nil (leaf_cmp t)
    ordered (Some r) = in_order-cons (leaf_cmp_total t) r [] ∙ ap (placed (leaf_cmp t) r) (in_order-nil (leaf_cmp t))

    only : (o : Option RevId) → only_of (option_to_list o) ≡ o
    only None = refl
    only (Some r) = refl

-- ---- a sorted list

-- no element is less than the previous one
abbrev Rises : {K : Type 0} → (K → K → Ordering) → List K → Type 0
Rises R [] = Unit {0}
Rises R (x ∷ []) = Unit {0}
Rises R (x ∷ (y ∷ xs)) = (is_lt (R y x) ≡ false) × Rises R (y ∷ xs)

rises : {K : Type 0} (R : K → K → Ordering) (xs : List K) → ((k : ℕ) (d : K) → suc k < length xs → is_lt (R (get_or xs (suc k) d) (get_or xs k d)) ≡ false) → Rises R xs
rises R [] h = tt
rises R (x ∷ []) h = tt
rises R (x ∷ (y ∷ xs)) h = (h zero x (omega arith), rises R (y ∷ xs) (λ k d low. h (suc k) d (omega arith)))

most : {K : Type 0} (R : K → K → Ordering) → IsTotalOrder R → (xs : List K) → length (in_order R xs) ≤ length xs
most R o [] = let e : length (in_order R []) ≡ 0 = ap length (in_order-nil R) in omega arith
most R o (x ∷ xs) =
    let less = most R o xs in
    let e = ap length (in_order-cons o x xs) ∙ length-placed o x xs in
    by (list_any (eq_by_cmp R x) xs) (length (in_order R (x ∷ xs))) (length (in_order R xs)) (length xs) less e
  where
    by : (b : Bool) (m l n : ℕ) → l ≤ n → m ≡ cond b l (l + 1) → m ≤ suc n
    by true m l n h e = omega arith
    by false m l n h e = omega arith

full : (b : Bool) (m l n : ℕ) → l ≤ n → m ≡ cond b l (l + 1) → suc n ≤ m → (b ≡ false) × (n ≤ l)
full true m l n h e k = absurd (omega arith)
full false m l n h e k = (refl, omega arith)

goes_first : (a b : Ordering) → a ≡ ordering_reverse b → is_eq a ≡ false → is_lt b ≡ false → a ≡ Less
goes_first a Less e ne nl = absurd (false≢true (sym nl))
goes_first a Equal e ne nl = absurd (false≢true (sym ne ∙ ap is_eq e))
goes_first a Greater e ne nl = e

-- a rising list without duplicates is in order
pub in_order-sorted : {K : Type 0} (R : K → K → Ordering) → IsTotalOrder R → (xs : List K) → Rises R xs → length xs ≤ length (in_order R xs) → in_order R xs ≡ xs
in_order-sorted R o [] up h = in_order-nil R
in_order-sorted {K} R o (x ∷ xs) up h =
    let e = ap length (in_order-cons o x xs) ∙ length-placed o x xs in
    let parts = full (list_any (eq_by_cmp R x) xs) (length (in_order R (x ∷ xs))) (length (in_order R xs)) (length xs) (most R o xs) e h in
    in_order-cons o x xs ∙ ap (placed R x) (in_order-sorted R o xs (later xs up) parts.1) ∙ placed_first xs up parts.0
  where
    later : (xs : List K) → Rises R (x ∷ xs) → Rises R xs
    later [] up = tt
    later (y ∷ xs) up = up.1

    placed_first : (xs : List K) → Rises R (x ∷ xs) → list_any (eq_by_cmp R x) xs ≡ false → placed R x xs ≡ x ∷ xs
    placed_first [] up none = refl
    placed_first (y ∷ xs) up none =
        ap (λ r. by_order r (x ∷ (y ∷ xs)) (y ∷ xs) (y ∷ placed R x xs)) (goes_first (R x y) (R y x) (o.antisymm x y) (or_parts (eq_by_cmp R x y) (list_any (eq_by_cmp R x) xs) none).0 up.0)

-- a sorted list with the elements of a list without duplicates is that list in order
pub sorted_in_order : {K : Type 0} (R : K → K → Ordering) → IsTotalOrder R → IsAntisymmetric R → (xs ys : List K) → length (in_order R xs) ≡ length xs → IsPermutation xs ys → IsSortedBy (λ x y. is_lt (R x y)) ys → ys ≡ in_order R xs
sorted_in_order {K} R o exact xs ys once moved up =
    let same = same_in_order o exact xs ys (λ q. list_any-IsPermutation (eq_by_cmp R q) xs ys moved) in
    let long = length_permutation xs ys moved in
    let full = ap length same in
    sym (same ∙ in_order-sorted R o ys (rises R ys (λ k d low. ap is_lt (ap (λ j. R (get_or ys j d) (get_or ys k d)) (sym (add-one k))) ∙ up k d (omega arith) (omega arith))) (omega (arith, once, long, full)))
