-- The rows of an index: those that remain after a change, and the live ones.
use Rattle.proof_prelude.proofs.{◌≡◌, ℕ, zero, suc, ◌+◌, ◌*◌, ◌<◌, ◌≤◌, List, [], ◌∷◌, ◌++◌, Bool, true, false, Option, Some, None, eqb, length, map, drop, cond, sym, ap, subst, ◌∙◌, refl, arith, inl, inr, ◌==◌, ◌/◌, nat_lt, nat_le, filter, slice_get, get_or, AllWithin, AllByRecursion, IsDistinct, list_any, IsNonDecreasingBy, IsPartitionPoint, keys_of, option_map_or, cond_both, cases_Bool, false≢true, false_from_ne_true, length-map, length-le_from_distinct_below, same_Some, none-some, eqb-true, length-append}
use Rattle.indexmap.specs.IndexMap.{set_value_at}
use Rattle.couch_base.specs.{Among, Id, is_live, live, live_upto, above, swept, named, feed_of, ArePlaces, AllBelow, InOrder, AreFew, AreRows, Kept, Among-push}
use Rattle.couch_base.proofs.Rising.{among_filter}

-- ---- appended rows, and removed rows

order_push : (s i : ℕ) (rows : List (ℕ × ℕ)) → InOrder rows → AllBelow s rows → InOrder (rows ++ (s, i) ∷ [])
order_push s i [] o below = (λ x m. absurd m, tt)
order_push s i (e ∷ rows) o below = (
  λ x m. elim (Among-push x rows (s, i) m) [
    | inl k ↦ o.0 x k
    | inr same ↦ let a : x.0 ≡ s = ap (λ (p : ℕ × ℕ). p.0) same in let b : e.0 < s = below e (inl refl) in omega (arith, a, b)
  ],
  order_push s i rows o.1 (λ x m. below x (inr m)),
)

pub order_filter : (p : ℕ × ℕ → Bool) (rows : List (ℕ × ℕ)) → InOrder rows → InOrder (filter p rows)
order_filter p [] o = tt
order_filter p (e ∷ rows) o =
    cond_both (p e) (e ∷ filter p rows) (filter p rows) InOrder
    (λ _. (λ x m. o.0 x (among_filter p rows x m).0, order_filter p rows o.1))
    (λ _. order_filter p rows o.1)

pub rows_push : (n m s i : ℕ) (rows : List (ℕ × ℕ)) → AreRows n s rows → n ≤ m → i < m → AreRows m (s + 1) (rows ++ (s, i) ∷ [])
rows_push n m s i rows r more within = record {
  places = λ e k. elim (Among-push e rows (s, i) k) [
    | inl h ↦ let a : e.1 < n = r.places e h in omega (arith, a, more)
    | inr same ↦ let a : e.1 ≡ i = ap (λ (p : ℕ × ℕ). p.1) same in omega (arith, a, within)
  ];
  below = λ e k. elim (Among-push e rows (s, i) k) [
    | inl h ↦ let a : e.0 < s = r.below e h in omega (arith, a)
    | inr same ↦ let a : e.0 ≡ s = ap (λ (p : ℕ × ℕ). p.0) same in omega (arith, a)
  ];
  order = order_push s i rows r.order r.below;
}

rows_filter : (p : ℕ × ℕ → Bool) (n s : ℕ) (rows : List (ℕ × ℕ)) → AreRows n s rows → AreRows n s (filter p rows)
rows_filter p n s rows r = record {
  places = λ e m. r.places e (among_filter p rows e m).0;
  below = λ e m. r.below e (among_filter p rows e m).0;
  order = order_filter p rows r.order;
}

pub rows_swept : (docs : List (Id × Kept)) (n s : ℕ) (rows : List (ℕ × ℕ)) → AreRows n s rows → AreRows n s (swept docs rows)
rows_swept docs n s rows r =
    cond_both (nat_lt (length docs) (length rows / 2)) (live docs rows) rows (AreRows n s)
    (λ _. rows_filter (is_live docs) n s rows r)
    (λ _. r)

filter_twice : (p : ℕ × ℕ → Bool) (rows : List (ℕ × ℕ)) → filter p (filter p rows) ≡ filter p rows
filter_twice p [] = refl
filter_twice p (e ∷ rows) =
    cond_both (p e) (e ∷ filter p rows) (filter p rows) (λ l. filter p l ≡ l)
    (λ hit. ap (λ b. cond b (e ∷ filter p (filter p rows)) (filter p (filter p rows))) hit ∙ ap (λ l. e ∷ l) (filter_twice p rows))
    (λ _. filter_twice p rows)

-- sweeping does not change the feed
pub feed_swept : (docs : List (Id × Kept)) (rows : List (ℕ × ℕ)) → feed_of docs (swept docs rows) ≡ feed_of docs rows
feed_swept docs rows =
    cond_both (nat_lt (length docs) (length rows / 2)) (live docs rows) rows (λ l. feed_of docs l ≡ feed_of docs rows)
    (λ _. ap (named (keys_of docs)) (filter_twice (is_live docs) rows))
    (λ _. refl)

pub places_filter : (n : ℕ) (p : ℕ × ℕ → Bool) (rows : List (ℕ × ℕ)) → ArePlaces n rows → ArePlaces n (filter p rows)
places_filter n p rows places e m = places e (among_filter p rows e m).0

pub order_above : (a : ℕ) (rows : List (ℕ × ℕ)) → InOrder rows → InOrder (above a rows)
order_above a rows o = order_filter _ rows o

-- ---- the number of rows

-- the sequence of the document at a position
one_seq : (o : Option (Id × Kept)) (s t : ℕ) → option_map_or (λ (d : Id × Kept). d.1.seq == s) o false ≡ true → option_map_or (λ (d : Id × Kept). d.1.seq == t) o false ≡ true → s ≡ t
one_seq None s t h k = absurd (false≢true h)
one_seq (Some d) s t h k = let a : d.1.seq ≡ s = eqb-true d.1.seq s h in let b : d.1.seq ≡ t = eqb-true d.1.seq t k in omega (arith, a, b)

-- of two rows with the same position, at most one is live
live_apart : (docs : List (Id × Kept)) (e x : ℕ × ℕ) → e.0 < x.0 → is_live docs e ≡ true → is_live docs x ≡ true → (e.1 == x.1) ≡ false
live_apart docs e x later here there =
    false_from_ne_true (e.1 == x.1) (λ same.
    let at : e.1 ≡ x.1 = eqb-true e.1 x.1 same in
    let s : e.0 ≡ x.0 = one_seq (slice_get docs e.1) e.0 x.0 here (ap (λ i. option_map_or (λ (d : Id × Kept). d.1.seq == x.0) (slice_get docs i) false) at ∙ there) in
    omega (arith, s, later))

places_apart : (docs : List (Id × Kept)) (e : ℕ × ℕ) (rows : List (ℕ × ℕ)) → ((x : ℕ × ℕ) → Among x rows → e.0 < x.0) → is_live docs e ≡ true → AllByRecursion (λ i. (e.1 == i) ≡ false) (map (λ (x : ℕ × ℕ). x.1) (live docs rows))
places_apart docs e [] later here = tt
places_apart docs e (x ∷ rows) later here =
    let rest = places_apart docs e rows (λ y m. later y (inr m)) here in
    cond_both (is_live docs x) (x ∷ live docs rows) (live docs rows) (λ l. AllByRecursion (λ i. (e.1 == i) ≡ false) (map (λ (y : ℕ × ℕ). y.1) l))
    (λ there. (live_apart docs e x (later x (inl refl)) here there, rest))
    (λ _. rest)

places_once : (docs : List (Id × Kept)) (rows : List (ℕ × ℕ)) → InOrder rows → IsDistinct eqb (map (λ (x : ℕ × ℕ). x.1) (live docs rows))
unfolding IsDistinct
places_once docs [] o = tt
places_once docs (e ∷ rows) o =
    cond_both (is_live docs e) (e ∷ live docs rows) (live docs rows) (λ l. IsDistinct eqb (map (λ (y : ℕ × ℕ). y.1) l))
    (λ here. (places_apart docs e rows o.0 here, places_once docs rows o.1))
    (λ _. places_once docs rows o.1)

place_within : (n : ℕ) (rows : List (ℕ × ℕ)) → ArePlaces n rows → (q : ℕ) → list_any (eqb q) (map (λ (x : ℕ × ℕ). x.1) rows) ≡ true → q < n
place_within n [] places q h = absurd (false≢true h)
place_within n (e ∷ rows) places q h =
    elim (cases_Bool (eqb q e.1)) [
      | inl hit ↦ let a : q ≡ e.1 = eqb-true q e.1 hit in let b : e.1 < n = places e (inl refl) in omega (arith, a, b)
      | inr miss ↦ place_within n rows (λ x m. places x (inr m)) q (rw miss at h)
    ]

-- there are no more live rows than documents
pub few_live : (docs : List (Id × Kept)) (s : ℕ) (rows : List (ℕ × ℕ)) → AreRows (length docs) s rows → length (live docs rows) ≤ length docs
few_live docs s rows r =
    let places = map (λ (x : ℕ × ℕ). x.1) (live docs rows) in
    let size : length places ≡ length (live docs rows) = length-map (live docs rows) (λ (x : ℕ × ℕ). x.1) in
    let most : length places ≤ length docs = length-le_from_distinct_below places (length docs) (places_once docs rows r.order) (place_within (length docs) (live docs rows) (places_filter (length docs) (is_live docs) rows r.places)) in
    omega (arith, size, most)

pub few_swept : (docs : List (Id × Kept)) (s : ℕ) (rows : List (ℕ × ℕ)) → AreRows (length docs) s rows → AreFew (length docs) (swept docs rows)
few_swept docs s rows r =
    cond_both (nat_lt (length docs) (length rows / 2)) (live docs rows) rows (AreFew (length docs))
    (λ _. let some : length (live docs rows) ≤ length docs = few_live docs s rows r in omega (arith, some))
    (λ enough. let half : length rows / 2 ≤ length docs = grind (arith, enough) in omega (arith, half))

pub few_push : (n m s i : ℕ) (rows : List (ℕ × ℕ)) → AreFew n rows → m ≡ n + 1 → AreFew m (rows ++ (s, i) ∷ [])
few_push n m s i rows few more =
    let size : length (rows ++ (s, i) ∷ []) ≡ length rows + 1 = length-append rows ((s, i) ∷ []) in
    let before : length rows ≤ 2 * n + 1 = few in
    omega (arith, size, before, more)

-- ---- live rows of a table that is written to

-- a row with its document's sequence is live
pub live_at : (docs : List (Id × Kept)) (s i : ℕ) (id : Id) (k : Kept) → slice_get docs i ≡ Some (id, k) → k.seq ≡ s → is_live docs (s, i) ≡ true
live_at docs s i id k at same =
    let e : (k.seq == s) ≡ true = grind (arith, same) in
    ap (λ o. option_map_or (λ (d : Id × Kept). d.1.seq == s) o false) at ∙ e

-- a row with another sequence is not live
pub dead_at : (docs : List (Id × Kept)) (s i : ℕ) (id : Id) (k : Kept) → slice_get docs i ≡ Some (id, k) → s < k.seq → is_live docs (s, i) ≡ false
dead_at docs s i id k at later =
    let e : (k.seq == s) ≡ false = grind (arith, later) in
    ap (λ o. option_map_or (λ (d : Id × Kept). d.1.seq == s) o false) at ∙ e

pub live_same : (docs new : List (Id × Kept)) (e : ℕ × ℕ) → slice_get new e.1 ≡ slice_get docs e.1 → is_live new e ≡ is_live docs e
live_same docs new e at = ap (λ o. option_map_or (λ (d : Id × Kept). d.1.seq == e.0) o false) at

get_more : (docs : List (Id × Kept)) (x : Id × Kept) (i : ℕ) → i < length docs → slice_get (docs ++ x ∷ []) i ≡ slice_get docs i
get_more [] x i within = absurd (omega (arith, within))
get_more (d ∷ docs) x zero within = refl
get_more (d ∷ docs) x (suc i) within = get_more docs x i (omega (arith, within))

-- a new document does not affect the others
pub live_more : (docs : List (Id × Kept)) (x : Id × Kept) (rows : List (ℕ × ℕ)) → ArePlaces (length docs) rows → live (docs ++ x ∷ []) rows ≡ live docs rows
live_more docs x [] places = refl
live_more docs x (e ∷ rows) places =
    ap (λ b. cond b (e ∷ live (docs ++ x ∷ []) rows) (live (docs ++ x ∷ []) rows)) (live_same docs (docs ++ x ∷ []) e (get_more docs x e.1 (places e (inl refl))))
    ∙ ap (λ l. cond (is_live docs e) (e ∷ l) l) (live_more docs x rows (λ y m. places y (inr m)))

pub get_set : (docs : List (Id × Kept)) (i : ℕ) (id : Id) (was k : Kept) → slice_get docs i ≡ Some (id, was) → slice_get (set_value_at docs i k) i ≡ Some (id, k)
get_set [] i id was k at = absurd (none-some (id, was) at)
get_set (d ∷ docs) zero id was k at = ap (λ (p : Id × Kept). Some (p.0, k)) (same_Some d (id, was) at)
get_set (d ∷ docs) (suc i) id was k at = get_set docs i id was k at

pub get_set_apart : (docs : List (Id × Kept)) (i j : ℕ) (k : Kept) → (i ≡ j → ⊥) → slice_get (set_value_at docs i k) j ≡ slice_get docs j
get_set_apart [] i j k apart = refl
get_set_apart (d ∷ docs) zero zero k apart = absurd (apart refl)
get_set_apart (d ∷ docs) zero (suc j) k apart = refl
get_set_apart (d ∷ docs) (suc i) zero k apart = refl
get_set_apart (d ∷ docs) (suc i) (suc j) k apart = get_set_apart docs i j k (λ same. apart (ap suc same))

-- ---- the first row above a sequence

pub among_get : (rows : List (ℕ × ℕ)) (i : ℕ) (d : ℕ × ℕ) → i < length rows → Among (get_or rows i d) rows
among_get [] i d within = absurd (omega (arith, within))
among_get (e ∷ rows) zero d within = inl refl
among_get (e ∷ rows) (suc i) d within = inr (among_get rows i d (omega (arith, within)))

pub order_by : (rows : List (ℕ × ℕ)) → InOrder rows → IsNonDecreasingBy (λ e. e.0) rows
order_by [] o i j d le within = absurd (omega (arith, within))
order_by (e ∷ rows) o zero zero d le within = omega arith
order_by (e ∷ rows) o zero (suc j) d le within = let a : e.0 < (get_or rows j d).0 = o.0 (get_or rows j d) (among_get rows j d (omega (arith, within))) in omega (arith, a)
order_by (e ∷ rows) o (suc i) zero d le within = absurd (omega (arith, le))
order_by (e ∷ rows) o (suc i) (suc j) d le within = order_by rows o.1 i j d (omega (arith, le)) (omega (arith, within))

not_upto : (a b : ℕ) → nat_le b a ≡ false → nat_lt a b ≡ true
not_upto a b h = grind (arith, h)

upto : (a b : ℕ) → nat_le b a ≡ true → nat_lt a b ≡ false
upto a b h = grind (arith, h)

all_above : (a : ℕ) (rows : List (ℕ × ℕ)) → AllWithin (λ e. nat_le e.0 a ≡ false) rows 0 (length rows) → rows ≡ above a rows
all_above a [] h = refl
all_above a (e ∷ rows) h =
    ap (λ l. e ∷ l) (all_above a rows (λ k d low high. h (suc k) d (omega arith) (omega (arith, high))))
    ∙ sym (ap (λ b. cond b (e ∷ above a rows) (above a rows)) (not_upto a e.0 (h 0 e (omega arith) (omega arith))))

pub above_from : (a : ℕ) (rows : List (ℕ × ℕ)) (i : ℕ) → IsPartitionPoint (λ e. nat_le e.0 a ≡ true) (λ e. nat_le e.0 a ≡ false) rows i → drop i rows ≡ above a rows
above_from a [] zero h = refl
above_from a [] (suc i) h = refl
above_from a (e ∷ rows) zero h = all_above a (e ∷ rows) h.1
above_from a (e ∷ rows) (suc i) h =
    above_from a rows i (
      λ k d low high. h.0 (suc k) d (omega arith) (omega (arith, high)),
      λ k d low high. h.1 (suc k) d (omega (arith, low)) (omega (arith, high)),
    )
    ∙ sym (ap (λ b. cond b (e ∷ above a rows) (above a rows)) (upto a e.0 (h.0 0 e (omega arith) (omega arith))))

-- ---- the next row of a page

-- rows above the goal are not in the page
over : (docs : List (Id × Kept)) (b : ℕ) (rows : List (ℕ × ℕ)) → ((x : ℕ × ℕ) → Among x rows → b < x.0) → live_upto docs b rows ≡ []
over docs b [] h = refl
over docs b (e ∷ rows) h =
    let high : b < e.0 = h e (inl refl) in
    let miss : nat_le e.0 b ≡ false = grind (arith, high) in
    let rest = over docs b rows (λ x m. h x (inr m)) in
    cond_both (is_live docs e) (e ∷ live docs rows) (live docs rows) (λ l. filter (λ x. nat_le x.0 b) l ≡ [])
    (λ _. ap (λ t. cond t (e ∷ live_upto docs b rows) (live_upto docs b rows)) miss ∙ rest)
    (λ _. rest)

pub past_goal : (docs : List (Id × Kept)) (b : ℕ) (left : List (ℕ × ℕ)) (e : ℕ × ℕ) (rows : List (ℕ × ℕ)) → InOrder left → left ≡ e ∷ rows → b < e.0 → live_upto docs b left ≡ []
past_goal docs b left e rows o is high =
    let order : InOrder (e ∷ rows) = subst InOrder is o in
    ap (live_upto docs b) is
    ∙ over docs b (e ∷ rows) (λ x m. elim m [
      | inl same ↦ let a : x.0 ≡ e.0 = ap (λ (p : ℕ × ℕ). p.0) same in omega (arith, a, high)
      | inr n ↦ let a : e.0 < x.0 = order.0 x n in omega (arith, a, high)
    ])

-- a row that is not live is skipped
pub row_dead : (docs : List (Id × Kept)) (b : ℕ) (left : List (ℕ × ℕ)) (e : ℕ × ℕ) (rows : List (ℕ × ℕ)) → left ≡ e ∷ rows → is_live docs e ≡ false → live_upto docs b left ≡ live_upto docs b rows
row_dead docs b left e rows is dead =
    ap (live_upto docs b) is ∙ ap (λ t. filter (λ x. nat_le x.0 b) (cond t (e ∷ live docs rows) (live docs rows))) dead

-- a live row at or below the goal is the next one
pub row_live : (docs : List (Id × Kept)) (b : ℕ) (left : List (ℕ × ℕ)) (e : ℕ × ℕ) (rows : List (ℕ × ℕ)) → left ≡ e ∷ rows → is_live docs e ≡ true → e.0 ≤ b → live_upto docs b left ≡ e ∷ live_upto docs b rows
row_live docs b left e rows is alive low =
    let within : nat_le e.0 b ≡ true = grind (arith, low) in
    ap (live_upto docs b) is
    ∙ ap (λ t. filter (λ x. nat_le x.0 b) (cond t (e ∷ live docs rows) (live docs rows))) alive
    ∙ ap (λ t. cond t (e ∷ live_upto docs b rows) (live_upto docs b rows)) within
