-- Nodes by index and by revision.
use Rattle.proof_prelude.proofs.{◌≡◌, ℕ, zero, suc, ◌+◌, ◌<◌, List, [], ◌∷◌, ◌++◌, map, length, get_or, Option, Some, None, true, false, ◌||◌, cond, is_some, IfSome, slice_get, sym, ap, ◌∙◌, subst, refl, arith, false≢true, or_right, or_parts, or_from, slice_get-map, slice_get_within, slice_get_read, same_Some, map-append, eq_by_cmp, option_map, option_or, eq_by_cmp_equiv}
use Rattle.std.specs.FinMap.{find}
use Rattle.rev_core.specs.{RevId, rev_cmp, rev_cmp_total, rev_tie_is, rev_tie_self, is_among}
use Rattle.rev_tree.specs.{find-joined, revs_in, node_of, place_of, places_from, Distinct, NodeValue}

-- index j, counted from i, is that of the node of q
pub record IsFound (nodes : List NodeValue) (q : RevId) (i j : ℕ) : Type 0 where
  pub place : ℕ
  pub node : NodeValue
  pub is : j ≡ i + place
  pub at : slice_get nodes place ≡ Some node
  pub found : node_of nodes q ≡ Some node
  pub rev : node.rev ≡ q

pub place_found : (nodes : List NodeValue) (q : RevId) (i j : ℕ) → find rev_cmp q (places_from i (revs_in nodes)) ≡ Some j → IsFound nodes q i j
place_found [] q i j h = absurd (false≢true (ap is_some h))
place_found (n ∷ nodes) q i j h =
    elim (eq_by_cmp rev_cmp q n.rev) as (λ b. eq_by_cmp rev_cmp q n.rev ≡ b → cond b (Some i) (find rev_cmp q (places_from (i + 1) (revs_in nodes))) ≡ Some j → IsFound (n ∷ nodes) q i j) [
      | true ↦ λ tie k.
          let same = same_Some i j k in
          record {
            place = 0;
            node = n;
            is = omega arith;
            at = refl;
            found = ap (λ b. cond b (Some n) (node_of nodes q)) tie;
            rev = sym (rev_tie_is q n.rev tie);
          }
      | false ↦ λ tie k.
          let later = place_found nodes q (i + 1) j k in
          record {
            place = suc later.place;
            node = later.node;
            is = omega (arith, later.is);
            at = later.at;
            found = ap (λ b. cond b (Some n) (node_of nodes q)) tie ∙ later.found;
            rev = later.rev;
          }
    ] refl h

-- there is no index if there is no node
pub place_none : (nodes : List NodeValue) (q : RevId) (i : ℕ) → is_some (find rev_cmp q (places_from i (revs_in nodes))) ≡ is_some (node_of nodes q)
place_none [] q i = refl
place_none (n ∷ nodes) q i =
    elim (eq_by_cmp rev_cmp q n.rev) as (λ b. is_some (cond b (Some i) (find rev_cmp q (places_from (i + 1) (revs_in nodes)))) ≡ is_some (cond b (Some n) (node_of nodes q))) [
      | true ↦ refl
      | false ↦ place_none nodes q (i + 1)
    ]

pub none_of : {X : Type 0} (o : Option X) → is_some o ≡ false → o ≡ None
none_of None h = refl
none_of (Some x) h = absurd (false≢true (sym h))

-- a node is found exactly if the revision is among those of the nodes
pub is_some-node_of : (nodes : List NodeValue) (q : RevId) → is_some (node_of nodes q) ≡ is_among q (revs_in nodes)
is_some-node_of [] q = refl
is_some-node_of (n ∷ nodes) q =
    elim (eq_by_cmp rev_cmp q n.rev) as (λ b. is_some (cond b (Some n) (node_of nodes q)) ≡ (b || is_among q (revs_in nodes))) [
      | true ↦ refl
      | false ↦ is_some-node_of nodes q
    ]

-- the node of a revision has this revision
pub node_rev : (nodes : List NodeValue) (q : RevId) (n : NodeValue) → node_of nodes q ≡ Some n → n.rev ≡ q
node_rev [] q n h = absurd (false≢true (ap is_some h))
node_rev (m ∷ nodes) q n h =
    elim (eq_by_cmp rev_cmp q m.rev) as (λ b. eq_by_cmp rev_cmp q m.rev ≡ b → cond b (Some m) (node_of nodes q) ≡ Some n → n.rev ≡ q) [
      | true ↦ λ tie k. ap (λ (x : NodeValue). x.rev) (sym (same_Some m n k)) ∙ sym (rev_tie_is q m.rev tie)
      | false ↦ λ _ k. node_rev nodes q n k
    ] refl h

pub rev_at_place : (nodes : List NodeValue) (k : ℕ) (n : NodeValue) → slice_get nodes k ≡ Some n → slice_get (revs_in nodes) k ≡ Some n.rev
rev_at_place nodes k n h = slice_get-map (λ (m : NodeValue). m.rev) nodes k ∙ ap (option_map (λ (m : NodeValue). m.rev)) h

pub among_at : (revs : List RevId) (k : ℕ) (r : RevId) → slice_get revs k ≡ Some r → is_among r revs ≡ true
among_at [] k r h = absurd (false≢true (ap is_some h))
among_at (x ∷ revs) zero r h = ap (λ y. eq_by_cmp rev_cmp r y || is_among r revs) (same_Some x r h) ∙ ap (λ b. b || is_among r revs) (rev_tie_self r)
among_at (x ∷ revs) (suc k) r h = or_right _ _ (among_at revs k r h)

-- a revision that is not in a list differs from each of its members
pub apart_from : (x : RevId) (revs : List RevId) (r : RevId) → is_among x revs ≡ false → is_among r revs ≡ true → eq_by_cmp rev_cmp r x ≡ false
apart_from x revs r none h =
    elim (eq_by_cmp rev_cmp r x) as (λ b. eq_by_cmp rev_cmp r x ≡ b → b ≡ false) [
      | true ↦ λ tie. absurd (false≢true (sym none ∙ ap (λ y. is_among y revs) (sym (rev_tie_is r x tie)) ∙ h))
      | false ↦ λ _. refl
    ] refl

-- the node at an index is the node of its revision
pub node_at : (nodes : List NodeValue) → Distinct (revs_in nodes) → (k : ℕ) (n : NodeValue) → slice_get nodes k ≡ Some n → node_of nodes n.rev ≡ Some n
node_at [] d k n h = absurd (false≢true (ap is_some h))
node_at (m ∷ nodes) d zero n h =
    let same = same_Some m n h in
    ap (λ (x : NodeValue). cond (eq_by_cmp rev_cmp n.rev x.rev) (Some x) (node_of nodes n.rev)) same
    ∙ ap (λ b. cond b (Some n) (node_of nodes n.rev)) (rev_tie_self n.rev)
node_at (m ∷ nodes) d (suc k) n h =
    ap (λ b. cond b (Some m) (node_of nodes n.rev)) (apart_from m.rev (revs_in nodes) n.rev d.0 (among_at (revs_in nodes) k n.rev (rev_at_place nodes k n h)))
    ∙ node_at nodes d.1 k n h

-- ---- one more node

pub node_of-push : (nodes : List NodeValue) (n : NodeValue) (q : RevId) → node_of (nodes ++ n ∷ []) q ≡ option_or (node_of nodes q) (cond (eq_by_cmp rev_cmp q n.rev) (Some n) None)
node_of-push nodes n q = ap (find rev_cmp q) (map-append (λ (m : NodeValue). (m.rev, m)) nodes (n ∷ [])) ∙ find-joined q (map (λ (m : NodeValue). (m.rev, m)) nodes) ((n.rev, n) ∷ [])

pub revs_in-push : (nodes : List NodeValue) (n : NodeValue) → revs_in (nodes ++ n ∷ []) ≡ revs_in nodes ++ n.rev ∷ []
revs_in-push nodes n = map-append (λ (m : NodeValue). m.rev) nodes (n ∷ [])

pub among_push : (revs : List RevId) (r q : RevId) → is_among q (revs ++ r ∷ []) ≡ (is_among q revs || eq_by_cmp rev_cmp q r)
among_push [] r q = elim (eq_by_cmp rev_cmp q r) as (λ b. (b || false) ≡ b) [ true ↦ refl | false ↦ refl ]
among_push (x ∷ revs) r q = elim (eq_by_cmp rev_cmp q x) as (λ b. (b || is_among q (revs ++ r ∷ [])) ≡ ((b || is_among q revs) || eq_by_cmp rev_cmp q r)) [
  | true ↦ refl
  | false ↦ among_push revs r q
]

pub distinct_push : (revs : List RevId) (r : RevId) → Distinct revs → is_among r revs ≡ false → Distinct (revs ++ r ∷ [])
distinct_push [] r d none = (refl, tt)
distinct_push (x ∷ revs) r d none =
    let parts = or_parts (eq_by_cmp rev_cmp r x) (is_among r revs) none in
    (among_push revs r x ∙ or_from _ _ d.0 ((eq_by_cmp_equiv rev_cmp_total).symm x r ∙ parts.0), distinct_push revs r d.1 parts.1)

-- an index stays valid
pub slice_get-append : {X : Type 0} (xs ys : List X) (k : ℕ) (x : X) → slice_get xs k ≡ Some x → slice_get (xs ++ ys) k ≡ Some x
slice_get-append [] ys k x h = absurd (false≢true (ap is_some h))
slice_get-append (z ∷ xs) ys zero x h = h
slice_get-append (z ∷ xs) ys (suc k) x h = slice_get-append xs ys k x h

pub slice_get-last : {X : Type 0} (xs : List X) (x : X) → slice_get (xs ++ x ∷ []) (length xs) ≡ Some x
slice_get-last [] x = refl
slice_get-last (y ∷ xs) x = slice_get-last xs x

-- ---- indices from the start

pub record IsNodeOf (nodes : List NodeValue) (q : RevId) (i : ℕ) : Type 0 where
  pub node : NodeValue
  pub at : slice_get nodes i ≡ Some node
  pub found : node_of nodes q ≡ Some node
  pub rev : node.rev ≡ q
  pub within : i < length nodes

pub place_known : (nodes : List NodeValue) (q : RevId) (i : ℕ) → place_of nodes q ≡ Some i → IsNodeOf nodes q i
place_known nodes q i h =
    let f = place_found nodes q 0 i h in
    let same : f.place ≡ i = omega (arith, f.is) in
    record {
      node = f.node;
      at = subst (λ k. slice_get nodes k ≡ Some f.node) same f.at;
      found = f.found;
      rev = f.rev;
      within = omega (arith, f.is, slice_get_within nodes f.place f.node f.at);
    }

pub place_unknown : (nodes : List NodeValue) (q : RevId) → place_of nodes q ≡ None → node_of nodes q ≡ None
place_unknown nodes q h = none_of _ (sym (place_none nodes q 0) ∙ ap is_some h)

pub place_within : (nodes : List NodeValue) (q : RevId) (o : Option ℕ) → o ≡ place_of nodes q → IfSome o (λ i. i < length nodes)
place_within nodes q None is = tt
place_within nodes q (Some i) is = (place_known nodes q i (sym is)).within

-- the index of a revision
placed_at : (nodes : List NodeValue) → Distinct (revs_in nodes) → (i k : ℕ) (n : NodeValue) → slice_get nodes k ≡ Some n → find rev_cmp n.rev (places_from i (revs_in nodes)) ≡ Some (i + k)
placed_at [] d i k n h = absurd (false≢true (ap is_some h))
placed_at (m ∷ nodes) d i zero n h =
    let here : i ≡ i + 0 = omega arith in
    ap (λ (x : NodeValue). cond (eq_by_cmp rev_cmp n.rev x.rev) (Some i) (find rev_cmp n.rev (places_from (i + 1) (revs_in nodes)))) (same_Some m n h)
    ∙ ap (λ b. cond b (Some i) (find rev_cmp n.rev (places_from (i + 1) (revs_in nodes)))) (rev_tie_self n.rev)
    ∙ ap Some here
placed_at (m ∷ nodes) d i (suc k) n h =
    let later : i + 1 + k ≡ i + suc k = omega arith in
    ap (λ b. cond b (Some i) (find rev_cmp n.rev (places_from (i + 1) (revs_in nodes)))) (apart_from m.rev (revs_in nodes) n.rev d.0 (among_at (revs_in nodes) k n.rev (rev_at_place nodes k n h)))
    ∙ placed_at nodes d.1 (i + 1) k n h ∙ ap Some later

pub place_at : (nodes : List NodeValue) → Distinct (revs_in nodes) → (k : ℕ) (n : NodeValue) (q : RevId) → slice_get nodes k ≡ Some n → eq_by_cmp rev_cmp q n.rev ≡ true → place_of nodes q ≡ Some k
place_at nodes d k n q h tie =
    let here : 0 + k ≡ k = omega arith in
    ap (place_of nodes) (rev_tie_is q n.rev tie) ∙ placed_at nodes d 0 k n h ∙ ap Some here

-- what is read at an index
pub read_at : {X : Type 0} (xs : List X) (k : ℕ) (x : X) → k < length xs → x ≡ get_or xs k x → slice_get xs k ≡ Some x
read_at xs k x low is = slice_get_read xs (length xs) k x refl low is

pub read_alike : {X : Type 0} (xs : List X) (k : ℕ) (x y : X) → k < length xs → x ≡ get_or xs k x → y ≡ get_or xs k y → x ≡ y
read_alike xs k x y low is also = same_Some x y (sym (read_at xs k x low is) ∙ read_at xs k y low also)
