-- The tournament among the leaves: matches played again, nodes entered, nodes changed.
use Rattle.proof_prelude.proofs.{◌≡◌, ℕ, zero, suc, ◌+◌, ◌-◌, ◌*◌, ◌/◌, ◌<◌, ◌≤◌, ◌⊎◌, inl, inr, List, [], ◌∷◌, ◌++◌, length, length-set, length-append, set, get_or, get_or-set_other, get_or-set_same, get_or_from_slice_get, slice_get-get_or, Option, Some, None, Bool, true, false, not, cond, cond-true, cond-false, is_some, sym, ap, ◌∙◌, subst, refl, arith, false≢true, same_Some, slice_get, slice_get_within, option_map, option_map_or, nat_eq, nat_lt, lt-ltb, ltb-true, eqb-true, eqb-false, is_eq, is_lt, ordering_reverse, IsTotalOrder, eq_by_cmp_equiv, Ordering, Less, Equal, Greater}
use Rattle.std.specs.Cmp.{bool_cmp_total, on_total, then_total}
use Rattle.std.proofs.lemmas.Cmp.{back_total}
use Rattle.rev_core.specs.{rev_cmp_total}
use Rattle.rev_tree.specs.{ContentValue, NodeValue, IsBefore, IsBestLeaf, IsEntry, IsHeld, IsPlayed, IsWinnerOf, Key, entry, goes_before, key_cmp, key_of, leaf_key, under}
use Rattle.rev_tree.proofs.Places.{slice_get-append}

-- ---- the order of players

key_cmp_total : IsTotalOrder key_cmp
key_cmp_total = then_total (on_total (λ (a : Key). a.0) bool_cmp_total) (back_total (on_total (λ (a : Key). a.1) rev_cmp_total))

not_less : (r : Ordering) → (r ≡ Less → false ≡ true) → is_lt r ≡ false
not_less Less h = absurd (false≢true (h refl))
not_less Equal h = refl
not_less Greater h = refl

less_is : (r : Ordering) → is_lt r ≡ true → r ≡ Less
less_is Less h = refl
less_is Equal h = absurd (false≢true h)
less_is Greater h = absurd (false≢true h)

tie_is : (r : Ordering) → is_eq r ≡ true → r ≡ Equal
tie_is Less h = absurd (false≢true h)
tie_is Equal h = refl
tie_is Greater h = absurd (false≢true h)

self_before : (a : Key) → is_lt (key_cmp a a) ≡ false
self_before a = ap is_lt (tie_is (key_cmp a a) ((eq_by_cmp_equiv key_cmp_total).refl a))

-- if b is less than a, then a is not less than b
reversed : (r s : Ordering) → r ≡ ordering_reverse s → is_lt s ≡ true → is_lt r ≡ false
reversed r Less e h = ap is_lt e
reversed r Equal e h = absurd (false≢true h)
reversed r Greater e h = absurd (false≢true h)

pub opposite : (a b : Key) → is_lt (key_cmp b a) ≡ true → is_lt (key_cmp a b) ≡ false
opposite a b h = reversed (key_cmp a b) (key_cmp b a) (key_cmp_total.antisymm a b) h

-- c is not less than a, if b is not less than a and c not less than b
steps : (a b c : Key) → is_lt (key_cmp b a) ≡ false → is_lt (key_cmp c b) ≡ false → is_lt (key_cmp c a) ≡ false
steps a b c one other =
    not_less (key_cmp c a) (λ less. go (key_cmp c b) refl less)
  where
    go : (r : Ordering) → key_cmp c b ≡ r → key_cmp c a ≡ Less → false ≡ true
    go Less e less = sym other ∙ ap is_lt e
    go Equal e less = sym one ∙ ap is_lt (sym (key_cmp_total.congr c b a e) ∙ less)
    go Greater e less = sym one ∙ ap is_lt (key_cmp_total.trans b c a (key_cmp_total.antisymm b c ∙ ap ordering_reverse e) less)

pub before_self : (x : Option Key) → IsBefore x x
before_self None = tt
before_self (Some a) = self_before a

pub before_steps : (x y z : Option Key) → IsBefore x y → IsBefore y z → IsBefore x z
before_steps x y None h k = tt
before_steps x None (Some c) h k = absurd k
before_steps None (Some b) (Some c) h k = absurd h
before_steps (Some a) (Some b) (Some c) h k = steps a b c h k

-- ---- the players at the indices

module _ (nodes : List NodeValue) (ws : List ℕ) (e : ℕ) where
  -- at a match
  pub under_match : (k : ℕ) → k < length ws → under nodes ws e k ≡ entry nodes (get_or ws k 0)
  under_match k low = cond-true (nat_lt k (length ws)) _ _ (lt-ltb k (length ws) low)

  -- at a node
  pub under_node : (j : ℕ) → j < e → under nodes ws e (length ws + j) ≡ leaf_key (slice_get nodes j)
  under_node j low =
      let same : length ws + j - length ws ≡ j = omega arith in
      cond-false (nat_lt (length ws + j) (length ws)) _ _ (high (length ws + j) (omega arith))
      ∙ ap (λ n. cond (nat_lt n e) (leaf_key (slice_get nodes n)) None) same
      ∙ cond-true (nat_lt j e) _ _ (lt-ltb j e low)
    where
      high : (k : ℕ) → length ws ≤ k → nat_lt k (length ws) ≡ false
      high k h = elim (nat_lt k (length ws)) as (λ b. nat_lt k (length ws) ≡ b → b ≡ false) [ true ↦ λ is. absurd (omega (arith, ltb-true k (length ws) is)) | false ↦ λ _. refl ] refl

one_or_more : (k : ℕ) → 1 ≤ k → (k ≡ 1) ⊎ (2 ≤ k)
one_or_more zero h = absurd (omega arith)
one_or_more (suc zero) h = inl refl
one_or_more (suc (suc k)) h = inr (omega arith)

-- ---- the final

module _ (nodes : List NodeValue) (ws : List ℕ) (e : ℕ) (played : IsPlayed nodes ws e 0) (many : 2 ≤ length ws) where
  -- no player goes before the winner of the final
  reach : (n k : ℕ) → k ≤ n → 1 ≤ k → k < 2 * length ws → IsBefore (entry nodes (get_or ws 1 0)) (under nodes ws e k)
  reach zero k low some within = absurd (omega arith)
  reach (suc n) k low some within =
      elim (one_or_more k some) [
        | inl is ↦
            subst (λ j. IsBefore (entry nodes (get_or ws 1 0)) (under nodes ws e j)) (sym is)
            (subst (IsBefore (entry nodes (get_or ws 1 0))) (sym (under_match nodes ws e 1 many)) (before_self (entry nodes (get_or ws 1 0))))
        | inr more ↦
            let half : k / 2 < length ws = omega arith in
            let up = subst (IsBefore (entry nodes (get_or ws 1 0))) (under_match nodes ws e (k / 2) half) (reach n (k / 2) (omega arith) (omega arith) (omega arith)) in
            before_steps (entry nodes (get_or ws 1 0)) (entry nodes (get_or ws (k / 2) 0)) (under nodes ws e k) up (played.ordered k more half (λ is. absurd (omega arith)))
      ]

  -- if the winner of the final is a leaf, it is the first leaf
  pub best_leaf : e ≡ length nodes → (p : ℕ) (n : NodeValue) → get_or ws 1 0 ≡ suc p → slice_get nodes p ≡ Some n → n.has_child ≡ false → IsBestLeaf nodes p
  best_leaf all p n final at leaf = record {
    node = n;
    at = at;
    leaf = leaf;
    best = λ j m there also.
        let low : j < length nodes = slice_get_within nodes j m there in
        let takes : j < e = omega (arith, all, low) in
        let fits = played.held.fits in
        let winner : entry nodes (get_or ws 1 0) ≡ Some (key_of n) = ap (entry nodes) final ∙ ap (option_map key_of) at in
        let player : under nodes ws e (length ws + j) ≡ Some (key_of m) = under_node nodes ws e j takes ∙ ap leaf_key there ∙ ap (λ b. cond b None (Some (key_of m))) also in
        let first = reach (length ws + j) (length ws + j) (omega arith) (omega (arith, many)) (omega (arith, takes, fits)) in
        subst (λ x. IsBefore x (Some (key_of m))) winner (subst (IsBefore (entry nodes (get_or ws 1 0))) player first);
  }

-- ---- before any node takes part

module _ (nodes : List NodeValue) (ws : List ℕ) (none : (i : ℕ) → get_or ws i 0 ≡ 0) where
  nobody : (k : ℕ) → under nodes ws 0 k ≡ None
  nobody k = elim (nat_lt k (length ws)) as (λ b. cond b (entry nodes (get_or ws k 0)) (cond (nat_lt (k - length ws) 0) (leaf_key (slice_get nodes (k - length ws))) None) ≡ None) [
    | true ↦ ap (entry nodes) (none k)
    | false ↦ elim (nat_lt (k - length ws) 0) as (λ b. nat_lt (k - length ws) 0 ≡ b → cond b (leaf_key (slice_get nodes (k - length ws))) None ≡ None) [
      | true ↦ λ is. absurd (omega (arith, ltb-true (k - length ws) 0 is))
      | false ↦ λ _. refl
    ] refl
  ]

  pub unplayed : IsPlayed nodes ws 0 0
  unplayed = record {
    held = record {
      within = omega arith;
      fits = omega arith;
      places = λ i. omega (arith, none i);
      contents = λ i p n is at. absurd (omega (arith, none i, is));
      leaves = λ j n low at leaf. absurd (omega arith);
    };
    ordered = λ k more half not. subst (IsBefore (entry nodes (get_or ws (k / 2) 0))) (sym (nobody k)) tt;
  }

-- ---- a match played again

same_or_other : (j i : ℕ) → (j ≡ i) ⊎ (j ≡ i → ⊥)
same_or_other j i = elim (nat_eq j i) as (λ b. nat_eq j i ≡ b → (j ≡ i) ⊎ (j ≡ i → ⊥)) [
  | true ↦ λ is. inl (eqb-true j i is)
  | false ↦ λ not. inr (eqb-false j i not)
] refl

module _ (nodes : List NodeValue) (ws : List ℕ) (e i w one other : ℕ) (played : IsPlayed nodes ws e i) (some : 0 < i) (low : i < length ws)
    (left : IsEntry nodes ws e (2 * i) one) (right : IsEntry nodes ws e (2 * i + 1) other) (wins : IsWinnerOf nodes one other w) where
  abbrev after : List ℕ
  after = set ws i w

  long : length after ≡ length ws
  long = length-set ws i w

  here : (j : ℕ) → j ≡ i → get_or after j 0 ≡ w
  here j is = ap (λ k. get_or after k 0) is ∙ get_or-set_same ws i w 0 low

  elsewhere : (j : ℕ) → (j ≡ i → ⊥) → get_or after j 0 ≡ get_or ws j 0
  elsewhere j not = get_or-set_other ws i j w 0 not

  w_within : w ≤ e
  w_within = elim wins.either [ inl is ↦ subst (λ x. x ≤ e) (sym is) left.within | inr is ↦ subst (λ x. x ≤ e) (sym is) right.within ]

  w_content : (p : ℕ) (n : NodeValue) → w ≡ suc p → slice_get nodes p ≡ Some n → is_some n.content ≡ true
  w_content p n same at = elim wins.either [ inl is ↦ left.content p n (sym is ∙ same) at | inr is ↦ right.content p n (sym is ∙ same) at ]

  under_other : (k : ℕ) → (k ≡ i → ⊥) → under nodes after e k ≡ under nodes ws e k
  under_other k not =
      ap (λ n. cond (nat_lt k n) (entry nodes (get_or after k 0)) (cond (nat_lt (k - n) e) (leaf_key (slice_get nodes (k - n))) None)) long
      ∙ ap (λ x. cond (nat_lt k (length ws)) (entry nodes x) (cond (nat_lt (k - length ws) e) (leaf_key (slice_get nodes (k - length ws))) None)) (elsewhere k not)

  two_sides : (k : ℕ) → k / 2 ≡ i → (k ≡ 2 * i) ⊎ (k ≡ 2 * i + 1)
  two_sides k is = elim (same_or_other k (2 * i)) [ inl same ↦ inl same | inr not ↦ inr (omega (arith, not)) ]

  side : (k : ℕ) → k / 2 ≡ i → IsBefore (entry nodes w) (under nodes ws e k)
  side k is = elim (two_sides k is) [
    | inl same ↦ subst (λ x. IsBefore (entry nodes w) (under nodes ws e x)) (sym same) (subst (IsBefore (entry nodes w)) left.key wins.first)
    | inr same ↦ subst (λ x. IsBefore (entry nodes w) (under nodes ws e x)) (sym same) (subst (IsBefore (entry nodes w)) right.key wins.second)
  ]

  stays : (k : ℕ) → (k ≡ i → ⊥) → IsBefore (entry nodes (get_or after (k / 2) 0)) (under nodes ws e k) → IsBefore (entry nodes (get_or after (k / 2) 0)) (under nodes after e k)
  stays k not h = subst (IsBefore (entry nodes (get_or after (k / 2) 0))) (sym (under_other k not)) h

  pub played_again : IsPlayed nodes after e (i / 2)
  played_again = record {
    held = record {
      within = played.held.within;
      fits = omega (arith, played.held.fits, long);
      places = λ j. elim (same_or_other j i) [ inl is ↦ subst (λ x. x ≤ e) (sym (here j is)) w_within | inr not ↦ subst (λ x. x ≤ e) (sym (elsewhere j not)) (played.held.places j) ];
      contents = λ j p n is at. elim (same_or_other j i) [ inl same ↦ w_content p n (sym (here j same) ∙ is) at | inr not ↦ played.held.contents j p n (sym (elsewhere j not) ∙ is) at ];
      leaves = played.held.leaves;
    };
    ordered = λ k more half not. elim (same_or_other (k / 2) i) [
      | inl is ↦
          let apart : k ≡ i → ⊥ = λ same. absurd (omega (arith, is, same, some)) in
          stays k apart (subst (λ x. IsBefore (entry nodes x) (under nodes ws e k)) (sym (here (k / 2) is)) (side k is))
      | inr far ↦
          let apart : k ≡ i → ⊥ = λ same. not (ap (λ x. x / 2) same) in
          stays k apart (subst (λ x. IsBefore (entry nodes x) (under nodes ws e k)) (sym (elsewhere (k / 2) far)) (played.ordered k more (omega (arith, half, long)) far))
    ];
  }

-- ---- one more node takes part

module _ (nodes : List NodeValue) (ws : List ℕ) (e : ℕ) (n : NodeValue) (played : IsPlayed nodes ws e 0) (fits : e < length ws) (at : slice_get nodes e ≡ Some n) where
  one_more : (a : ℕ) → (a ≡ e → ⊥) → nat_lt a (e + 1) ≡ nat_lt a e
  one_more a not = elim (nat_lt a e) as (λ b. nat_lt a e ≡ b → nat_lt a (e + 1) ≡ b) [
    | true ↦ λ is. lt-ltb a (e + 1) (omega (arith, ltb-true a e is))
    | false ↦ λ is. elim (nat_lt a (e + 1)) as (λ b. nat_lt a (e + 1) ≡ b → b ≡ false) [
      | true ↦ λ more. absurd (elim (same_or_other a e) as (λ _. ⊥) [ inl same ↦ not same | inr other ↦ false≢true (sym is ∙ lt-ltb a e (omega (arith, ltb-true a (e + 1) more, other))) ])
      | false ↦ λ _. refl
    ] refl
  ] refl

  under_more : (k : ℕ) → (k ≡ length ws + e → ⊥) → under nodes ws (e + 1) k ≡ under nodes ws e k
  under_more k not = elim (nat_lt k (length ws)) as (λ b. nat_lt k (length ws) ≡ b
      → cond b (entry nodes (get_or ws k 0)) (cond (nat_lt (k - length ws) (e + 1)) (leaf_key (slice_get nodes (k - length ws))) None)
      ≡ cond b (entry nodes (get_or ws k 0)) (cond (nat_lt (k - length ws) e) (leaf_key (slice_get nodes (k - length ws))) None)) [
        | true ↦ λ _. refl
        | false ↦ λ is. ap (λ b. cond b (leaf_key (slice_get nodes (k - length ws))) None) (one_more (k - length ws) (λ same. not (k_is k (high k is) same)))
      ] refl
    where
      high : (k : ℕ) → nat_lt k (length ws) ≡ false → length ws ≤ k
      high k is = elim (same_or_other (length ws - k) 0) [ inl same ↦ omega (arith, same) | inr other ↦ absurd (false≢true (sym is ∙ lt-ltb k (length ws) (omega (arith, other)))) ]

      k_is : (k : ℕ) → length ws ≤ k → k - length ws ≡ e → k ≡ length ws + e
      k_is k h same = omega arith

  held_more : (n.has_child ≡ false → is_some n.content ≡ true) → IsHeld nodes ws (e + 1)
  held_more content = record {
    within = omega (arith, slice_get_within nodes e n at);
    fits = omega (arith, fits);
    places = λ i. omega (arith, played.held.places i);
    contents = played.held.contents;
    leaves = λ j m low there leaf. elim (same_or_other j e) [
      | inl same ↦
          let is : m ≡ n = same_Some m n (sym there ∙ ap (slice_get nodes) same ∙ at) in
          ap (λ (x : NodeValue). is_some x.content) is ∙ content (sym (ap (λ (x : NodeValue). x.has_child) is) ∙ leaf)
      | inr other ↦ played.held.leaves j m (omega (arith, low, other)) there leaf
    ];
  }

  -- a leaf, whose matches are not played yet
  pub entered_leaf : is_some n.content ≡ true → IsPlayed nodes ws (e + 1) ((length ws + e) / 2)
  entered_leaf content = record {
    held = held_more (λ _. content);
    ordered = λ k more half not.
        let apart : k ≡ length ws + e → ⊥ = λ same. not (ap (λ x. x / 2) same) in
        subst (IsBefore (entry nodes (get_or ws (k / 2) 0))) (sym (under_more k apart)) (played.ordered k more half (λ is. absurd (omega arith)));
  }

  -- a node with a child, which plays no match
  pub entered_parent : n.has_child ≡ true → IsPlayed nodes ws (e + 1) 0
  entered_parent parent = record {
    held = held_more (λ leaf. absurd (false≢true (sym leaf ∙ parent)));
    ordered = λ k more half not. elim (same_or_other k (length ws + e)) [
      | inl same ↦
          let nobody : under nodes ws (e + 1) k ≡ None =
          ap (under nodes ws (e + 1)) same ∙ under_node nodes ws (e + 1) e (omega arith) ∙ ap leaf_key at ∙ ap (λ b. cond b None (Some (key_of n))) parent in
          subst (IsBefore (entry nodes (get_or ws (k / 2) 0))) (sym nobody) tt
      | inr apart ↦ subst (IsBefore (entry nodes (get_or ws (k / 2) 0))) (sym (under_more k apart)) (played.ordered k more half (λ is. absurd (omega arith)))
    ];
  }

-- if all results are right, so are those of all matches but one
pub played_but : (nodes : List NodeValue) (ws : List ℕ) (e x : ℕ) → IsPlayed nodes ws e 0 → IsPlayed nodes ws e x
played_but nodes ws e x played = record { held = played.held; ordered = λ k more half not. played.ordered k more half (λ is. absurd (omega arith)) }

-- ---- nodes that change

-- a node keeps its revision, its content if it has one, and its children
pub record IsKeptNode (n m : NodeValue) : Type 0 where
  pub rev : m.rev ≡ n.rev
  pub content : is_some n.content ≡ true → m.content ≡ n.content
  pub child : m.has_child ≡ false → n.has_child ≡ false

pub record KeptAt (new : List NodeValue) (p : ℕ) (n : NodeValue) : Type 0 where
  pub node : NodeValue
  pub at : slice_get new p ≡ Some node
  pub kept : IsKeptNode n node

pub record AreKept (nodes new : List NodeValue) : Type 0 where
  pub longer : length nodes ≤ length new
  pub each : (p : ℕ) (n : NodeValue) → slice_get nodes p ≡ Some n → KeptAt new p n

kept_self : (n : NodeValue) → IsKeptNode n n
kept_self n = record { rev = refl; content = λ _. refl; child = λ h. h }

pub kept_push : (nodes : List NodeValue) (n : NodeValue) → AreKept nodes (nodes ++ n ∷ [])
kept_push nodes n = record {
  longer = omega (arith, length-append nodes (n ∷ []));
  each = λ p m at. record { node = m; at = slice_get-append nodes (n ∷ []) p m at; kept = kept_self m };
}

pub kept_set : (nodes : List NodeValue) (k : ℕ) (n m : NodeValue) → slice_get nodes k ≡ Some n → IsKeptNode n m → AreKept nodes (set nodes k m)
kept_set nodes k n m at kept = record {
  longer = omega (arith, length-set nodes k m);
  each = λ p x there. elim (same_or_other p k) [
    | inl same ↦
        let is : x ≡ n = same_Some x n (sym there ∙ ap (slice_get nodes) same ∙ at) in
        let low : k < length nodes = slice_get_within nodes k n at in
        record {
          node = m;
          at = ap (slice_get (set nodes k m)) same ∙ slice_get-get_or (set nodes k m) k m (omega (arith, low, length-set nodes k m)) ∙ ap Some (get_or-set_same nodes k m m low);
          kept = subst (λ y. IsKeptNode y m) (sym is) kept;
        }
    | inr other ↦
        let low : p < length nodes = slice_get_within nodes p x there in
        record {
          node = x;
          at =
              slice_get-get_or (set nodes k m) p x (omega (arith, low, length-set nodes k m))
              ∙ ap Some (get_or-set_other nodes k p m x other ∙ get_or_from_slice_get nodes p x x there);
          kept = kept_self x;
        }
  ];
}

pub kept_twice : (nodes middle new : List NodeValue) → AreKept nodes middle → AreKept middle new → AreKept nodes new
kept_twice nodes middle new one two = record {
  longer = omega (arith, one.longer, two.longer);
  each = λ p n at.
      let m = one.each p n at in
      let l = two.each p m.node m.at in
      record {
        node = l.node;
        at = l.at;
        kept = record {
          rev = l.kept.rev ∙ m.kept.rev;
          content = λ some. l.kept.content (ap is_some (m.kept.content some) ∙ some) ∙ m.kept.content some;
          child = λ h. m.kept.child (l.kept.child h);
        };
      };
}

at_index : (nodes : List NodeValue) (p : ℕ) → p < length nodes → (n : NodeValue) × (slice_get nodes p ≡ Some n)
at_index [] p low = absurd (omega arith)
at_index (n ∷ nodes) zero low = (n, refl)
at_index (n ∷ nodes) (suc p) low = at_index nodes p (omega arith)

module _ (nodes new : List NodeValue) (ws : List ℕ) (e : ℕ) (kept : AreKept nodes new) (played : IsPlayed nodes ws e 0) where
  same_key : (n m : NodeValue) → IsKeptNode n m → is_some n.content ≡ true → key_of m ≡ key_of n
  same_key n m k some = λ i. (option_map_or (λ (b : ContentValue). b.deleted) (k.content some i) false, k.rev i)

  same_entry : (i w : ℕ) → get_or ws i 0 ≡ w → entry new w ≡ entry nodes w
  same_entry i zero is = refl
  same_entry i (suc p) is =
      let low : p < length nodes = omega (arith, played.held.places i, is, played.held.within) in
      let n = at_index nodes p low in
      let m = kept.each p n.0 n.1 in
      ap (option_map key_of) m.at ∙ ap Some (same_key n.0 m.node m.kept (played.held.contents i p n.0 is n.1)) ∙ sym (ap (option_map key_of) n.1)

  leaf_still : (x : Option Key) (j : ℕ) → j < e → IsBefore x (leaf_key (slice_get nodes j)) → IsBefore x (leaf_key (slice_get new j))
  leaf_still x j low h =
      let n = at_index nodes j (omega (arith, low, played.held.within)) in
      let m = kept.each j n.0 n.1 in
      subst (λ o. IsBefore x (leaf_key o)) (sym m.at) (go n.0 n.1 m.node m.kept (m.node.has_child) refl)
    where
      go : (n : NodeValue) → slice_get nodes j ≡ Some n → (m : NodeValue) → IsKeptNode n m → (b : Bool) → m.has_child ≡ b → IsBefore x (cond m.has_child None (Some (key_of m)))
      go n at m k true is = subst (λ b. IsBefore x (cond b None (Some (key_of m)))) (sym is) tt
      go n at m k false is =
          let leaf = k.child is in
          let old : IsBefore x (Some (key_of n)) = subst (λ b. IsBefore x (cond b None (Some (key_of n)))) leaf (subst (λ o. IsBefore x (leaf_key o)) at h) in
          subst (λ b. IsBefore x (cond b None (Some (key_of m)))) (sym is)
          (subst (λ y. IsBefore x (Some y)) (sym (same_key n m k (played.held.leaves j n low at leaf))) old)

  still : (x : Option Key) (k : ℕ) → IsBefore x (under nodes ws e k) → IsBefore x (under new ws e k)
  still x k = elim (nat_lt k (length ws)) as (λ b. IsBefore x (cond b (entry nodes (get_or ws k 0)) (cond (nat_lt (k - length ws) e) (leaf_key (slice_get nodes (k - length ws))) None))
      → IsBefore x (cond b (entry new (get_or ws k 0)) (cond (nat_lt (k - length ws) e) (leaf_key (slice_get new (k - length ws))) None))) [
        | true ↦ λ h. subst (IsBefore x) (sym (same_entry k (get_or ws k 0) refl)) h
        | false ↦ elim (nat_lt (k - length ws) e) as (λ b. nat_lt (k - length ws) e ≡ b → IsBefore x (cond b (leaf_key (slice_get nodes (k - length ws))) None) → IsBefore x (cond b (leaf_key (slice_get new (k - length ws))) None)) [
          | true ↦ λ low h. leaf_still x (k - length ws) (ltb-true (k - length ws) e low) h
          | false ↦ λ _ h. h
        ] refl
      ]

  pub kept_played : IsPlayed new ws e 0
  kept_played = record {
    held = record {
      within = omega (arith, played.held.within, kept.longer);
      fits = played.held.fits;
      places = played.held.places;
      contents = λ i p n is at.
          let low : p < length nodes = omega (arith, played.held.places i, is, played.held.within) in
          let old = at_index nodes p low in
          let m = kept.each p old.0 old.1 in
          let some = played.held.contents i p old.0 is old.1 in
          ap (λ (x : NodeValue). is_some x.content) (same_Some n m.node (sym at ∙ m.at)) ∙ ap is_some (m.kept.content some) ∙ some;
      leaves = λ j n low at leaf.
          let old = at_index nodes j (omega (arith, low, played.held.within)) in
          let m = kept.each j old.0 old.1 in
          let same : n ≡ m.node = same_Some n m.node (sym at ∙ m.at) in
          let some = played.held.leaves j old.0 low old.1 (m.kept.child (sym (ap (λ (x : NodeValue). x.has_child) same) ∙ leaf)) in
          ap (λ (x : NodeValue). is_some x.content) same ∙ ap is_some (m.kept.content some) ∙ some;
    };
    ordered = λ k more half not.
        still (entry new (get_or ws (k / 2) 0)) k (subst (λ x. IsBefore x (under nodes ws e k)) (sym (same_entry (k / 2) (get_or ws (k / 2) 0) refl)) (played.ordered k more half not));
  }

-- ---- a match between two stored players

pub entry_at : (nodes : List NodeValue) (w p : ℕ) (n : NodeValue) → w ≡ p + 1 → slice_get nodes p ≡ Some n → entry nodes w ≡ Some (key_of n)
entry_at nodes w p n is at =
    let same : w ≡ suc p = omega (arith, is) in
    ap (entry nodes) same ∙ ap (option_map key_of) at

module _ (nodes : List NodeValue) (one other : ℕ) where
  pub alone : other ≡ 0 → IsWinnerOf nodes one other one
  alone none = record { either = inl refl; first = before_self (entry nodes one); second = subst (λ w. IsBefore (entry nodes one) (entry nodes w)) (sym none) tt }

  pub other_alone : one ≡ 0 → IsWinnerOf nodes one other other
  other_alone none = record { either = inr refl; first = subst (λ w. IsBefore (entry nodes other) (entry nodes w)) (sym none) tt; second = before_self (entry nodes other) }

  pub other_wins : (a b : NodeValue) → entry nodes one ≡ Some (key_of a) → entry nodes other ≡ Some (key_of b) → goes_before b (Some a) ≡ true → IsWinnerOf nodes one other other
  other_wins a b left right wins = record {
    either = inr refl;
    first = subst (λ x. IsBefore x (entry nodes one)) (sym right) (subst (IsBefore (Some (key_of b))) (sym left) (opposite (key_of a) (key_of b) wins));
    second = before_self (entry nodes other);
  }

  pub one_wins : (a b : NodeValue) → entry nodes one ≡ Some (key_of a) → entry nodes other ≡ Some (key_of b) → goes_before b (Some a) ≡ false → IsWinnerOf nodes one other one
  one_wins a b left right loses = record {
    either = inl refl;
    first = before_self (entry nodes one);
    second = subst (λ x. IsBefore x (entry nodes other)) (sym left) (subst (IsBefore (Some (key_of a))) (sym right) loses);
  }

-- ---- the invariant of nodes that change

pub moved_played : (nodes new : List NodeValue) (ws vs : List ℕ) (e f : ℕ) → AreKept nodes new → vs ≡ ws → f ≡ e → IsPlayed nodes ws e 0 → IsPlayed new vs f 0
moved_played nodes new ws vs e f kept is at played =
    subst (λ v. IsPlayed new v f 0) (sym is) (subst (λ g. IsPlayed new ws g 0) (sym at) (kept_played nodes new ws e kept played))

pub same_played : (nodes : List NodeValue) (ws vs : List ℕ) (e f : ℕ) → vs ≡ ws → f ≡ e → IsPlayed nodes ws e 0 → IsPlayed nodes vs f 0
same_played nodes ws vs e f is at played = subst (λ v. IsPlayed nodes v f 0) (sym is) (subst (λ g. IsPlayed nodes ws g 0) (sym at) played)

pub empty_played : (nodes : List NodeValue) (ws : List ℕ) (e : ℕ) → ws ≡ [] → e ≡ 0 → IsPlayed nodes ws e 0
empty_played nodes ws e is at = same_played nodes [] ws 0 e is at (unplayed nodes [] (λ i. refl))

-- ---- a player as it is stored

module _ (nodes : List NodeValue) (ws : List ℕ) (e k : ℕ) (held : IsHeld nodes ws e) where
  -- the winner of a match
  pub entry_match : k < length ws → IsEntry nodes ws e k (get_or ws k 0)
  entry_match low = record { key = sym (under_match nodes ws e k low); within = held.places k; content = held.contents k }

  -- a leaf
  pub entry_leaf : (place : ℕ) (n : NodeValue) → k ≡ length ws + place → place < e → slice_get nodes place ≡ Some n → n.has_child ≡ false → IsEntry nodes ws e k (place + 1)
  entry_leaf place n is low at leaf = record {
    key =
        entry_at nodes (place + 1) place n refl at
        ∙ sym (ap (under nodes ws e) is ∙ under_node nodes ws e place low ∙ ap leaf_key at ∙ ap (λ b. cond b None (Some (key_of n))) leaf);
    within = omega arith;
    content = λ p m same there.
        let here : p ≡ place = omega (arith, same) in
        ap (λ (x : NodeValue). is_some x.content) (same_Some m n (sym there ∙ ap (slice_get nodes) here ∙ at)) ∙ held.leaves place n low at leaf;
  }

  no_player : under nodes ws e k ≡ None → IsEntry nodes ws e k 0
  no_player none = record { key = sym none; within = omega arith; content = λ p m same there. absurd (omega (arith, same)) }

  -- a node with a child
  pub entry_parent : (place : ℕ) (n : NodeValue) → k ≡ length ws + place → place < e → slice_get nodes place ≡ Some n → n.has_child ≡ true → IsEntry nodes ws e k 0
  entry_parent place n is low at parent =
      no_player (ap (under nodes ws e) is ∙ under_node nodes ws e place low ∙ ap leaf_key at ∙ ap (λ b. cond b None (Some (key_of n))) parent)

  -- a node that does not take part
  pub entry_none : length ws ≤ k → e ≤ k - length ws → IsEntry nodes ws e k 0
  entry_none above late =
      no_player
      (elim (nat_lt k (length ws)) as (λ b. nat_lt k (length ws) ≡ b → cond b (entry nodes (get_or ws k 0)) (cond (nat_lt (k - length ws) e) (leaf_key (slice_get nodes (k - length ws))) None) ≡ None) [
        | true ↦ λ is. absurd (omega (arith, ltb-true k (length ws) is, above))
        | false ↦ λ _. elim (nat_lt (k - length ws) e) as (λ b. nat_lt (k - length ws) e ≡ b → cond b (leaf_key (slice_get nodes (k - length ws))) None ≡ None) [
          | true ↦ λ is. absurd (omega (arith, ltb-true (k - length ws) e is, late))
          | false ↦ λ _. refl
        ] refl
      ] refl)
