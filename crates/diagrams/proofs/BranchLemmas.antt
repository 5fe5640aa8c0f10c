-- Lemmas: the ancestries that a list of branches stores.
use Rattle.proof_prelude.proofs.{◌≡◌, ℕ, zero, suc, ◌+◌, ◌-◌, ◌<◌, ◌≤◌, List, [], ◌∷◌, ◌++◌, Option, Some, None, Vec, length, take, slice_get, unwrap_or, and_parts, cases_order, is_some, HashMap, Global, IfSome, nat_eq, eqb-true, false≢true, eq_by_cmp, position, position-Some, keys_of, get_or, option_map, slice_get-map, length-map, inl, inr, ◌⊎◌, refl, sym, ap, ◌∙◌, subst, arith, append_assoc, append-nil, length-append, length-take, length-take-le, same_Some, none-some, slice_get_within, option_and_then, option_copied, Bool, Bor, nat_lt, min, true, false, cond-true, cond-false, lt-ltb, le-ltb, if◌then◌else◌, take-take}
use Rattle.std.proofs.lemmas.List.{take-append-le, take_more}
use Rattle.std.proofs.lemmas.Option.{get_or_from_slice_get, option_and_then_some, slice_get_past, slice_get_read}
use Rattle.std.proofs.Math.Seq.{take-append-add}
use Rattle.std.specs.Slice.{IsItemAt}
use Rattle.std.specs.Option.{option_eq}
use Rattle.std.specs.HashMap.{get_by}
use Rattle.indexmap.specs.IndexMap.{insert_entry}
use Rattle.indexmap.proofs.CallerLemmas.{insert_entry-new}
use Rattle.rev_core.specs.{RevId, rev_cmp, rev_tie_is}
use Rattle.diagrams.specs.declared.ancestries.Point.{Point}
use Rattle.diagrams.specs.declared.ancestries.Start.{Start}
use Rattle.diagrams.specs.contracts.ancestries.PointPartialEq.TheImpl as PointPartialEq
use Rattle.diagrams.specs.contracts.ancestries.StartPartialEq.TheImpl as StartPartialEq
use Rattle.diagrams.specs.Branches.{AreLinked, Branch, Extends, Follows, IsWithin, count_of, end_at, end_in, ends_after, ends_of, from_of, path_in, path_of}

-- Two ancestries and the ancestries of two branches begin with the same `count` revisions.
pub record IsJoined (bs : List Branch) (p q : Point) (one other count : ℕ) : Type 0 where
  pub first : take count (end_at bs one) ≡ take count (path_of bs (Some p))
  pub second : take count (end_at bs other) ≡ take count (path_of bs (Some q))
  pub in_first : count ≤ length (path_of bs (Some p))
  pub in_second : count ≤ length (path_of bs (Some q))

-- The first `count` revisions of an ancestry are stored, and end with the revision `at`. No branch of `old` is lost.
pub record HasAdded (old new : List Branch) (revs : List RevId) (count : ℕ) (at : Option Point) : Type 0 where
  pub extends : Extends old new
  pub counts : count_of at ≡ count
  pub path : path_of new at ≡ take count revs
  pub within : IfSome at (λ p. IsWithin new (length new) p)

-- ---- elements of lists

pub slice_get-append : {X : Type 0} (xs ys : List X) (i : ℕ) → i < length xs → slice_get (xs ++ ys) i ≡ slice_get xs i
slice_get-append [] ys i h = absurd (omega arith)
slice_get-append (x ∷ xs) ys zero h = refl
slice_get-append (x ∷ xs) ys (suc i) h = slice_get-append xs ys i (omega arith)

pub slice_get-append_right : {X : Type 0} (xs ys : List X) (n i : ℕ) → n ≡ length xs + i → slice_get (xs ++ ys) n ≡ slice_get ys i
slice_get-append_right [] ys n i e = let s : n ≡ i = omega arith in ap (slice_get ys) s
slice_get-append_right (x ∷ xs) ys zero i e = absurd (omega arith)
slice_get-append_right (x ∷ xs) ys (suc n) i e = slice_get-append_right xs ys n i (omega arith)

pub slice_get-take : {X : Type 0} (c : ℕ) (xs : List X) (i : ℕ) → i < c → slice_get (take c xs) i ≡ slice_get xs i
slice_get-take zero xs i h = absurd (omega arith)
slice_get-take (suc c) [] i h = refl
slice_get-take (suc c) (x ∷ xs) zero h = refl
slice_get-take (suc c) (x ∷ xs) (suc i) h = slice_get-take c xs i (omega arith)

pub past : {X : Type 0} (xs : List X) (k : ℕ) → None ≡ slice_get xs k → length xs ≤ k
past [] k e = omega arith
past (x ∷ xs) zero e = absurd (none-some x e)
past (x ∷ xs) (suc k) e = let r : length xs ≤ k = past xs k e in omega arith

pub length-taken : (n : ℕ) → length (take {A = RevId} n []) ≡ 0
length-taken n = length-take n [] ∙ min-zero n
  where
    min-zero : (k : ℕ) → min k 0 ≡ 0
    min-zero k = omega arith

-- A revision that `get` returns.
pub copied : {X : Type 0} (xs : List X) (i : ℕ) (r : Option (Bor X)) → IsItemAt xs i r → option_copied r ≡ slice_get xs i
copied xs i None h = sym (slice_get_past xs i h.3)
copied xs i (Some x) h = sym (slice_get_read xs (length xs) i x.now refl h.3.0 h.1)

pub take-next : {X : Type 0} (xs : List X) (n : ℕ) (x : X) → slice_get xs n ≡ Some x → take (n + 1) xs ≡ take n xs ++ x ∷ []
take-next xs n x h =
    take_more xs n x (slice_get_within xs n x h) ∙ ap (λ y. take n xs ++ y ∷ []) (get_or_from_slice_get xs n x x h)

-- ---- the ancestries of branches

pub length-ends_after : (ends : List (List RevId)) (bs : List Branch) → length (ends_after ends bs) ≡ length bs
length-ends_after ends [] = refl
length-ends_after ends (b ∷ bs) = ap suc (length-ends_after (ends ++ end_in ends b ∷ []) bs)

pub ends_after-append : (ends : List (List RevId)) (bs more : List Branch) → ends_after ends (bs ++ more) ≡ ends_after ends bs ++ ends_after (ends ++ ends_after ends bs) more
ends_after-append ends [] more = ap (λ (es : List (List RevId)). ends_after es more) (sym (append-nil ends))
ends_after-append ends (b ∷ bs) more =
    let e = end_in ends b in
    ap (λ (t : List (List RevId)). e ∷ t) (ends_after-append (ends ++ e ∷ []) bs more
    ∙ ap (λ (t : List (List RevId)). ends_after (ends ++ e ∷ []) bs ++ ends_after t more) (append_assoc ends (e ∷ []) (ends_after (ends ++ e ∷ []) bs)))

-- Each branch's ancestry depends on the earlier branches' ancestries.
pub ends_after-at : (ends : List (List RevId)) (bs : List Branch) (i : ℕ) (b : Branch) → slice_get bs i ≡ Some b
    → slice_get (ends_after ends bs) i ≡ Some (end_in (ends ++ take i (ends_after ends bs)) b)
ends_after-at ends [] i b h = absurd (none-some b h)
ends_after-at ends (x ∷ bs) zero b h =
    ap (λ (y : Branch). Some (end_in ends y)) (same_Some x b h)
    ∙ ap (λ (es : List (List RevId)). Some (end_in es b)) (sym (append-nil ends))
ends_after-at ends (x ∷ bs) (suc i) b h =
    let e = end_in ends x in
    ends_after-at (ends ++ e ∷ []) bs i b h
    ∙ ap (λ (es : List (List RevId)). Some (end_in es b)) (append_assoc ends (e ∷ []) (take i (ends_after (ends ++ e ∷ []) bs)))

-- The ancestry of a revision depends on its branch's ancestry only.
pub path_in-take : (ends : List (List RevId)) (n : ℕ) (at : Option Point) → ((p : Point) → at ≡ Some p → p.branch < n)
    → path_in (take n ends) at ≡ path_in ends at
path_in-take ends n None h = refl
path_in-take ends n (Some p) h = ap (λ (o : Option (List RevId)). take p.count (unwrap_or o [])) (slice_get-take n ends p.branch (h p refl))

module _ (bs : List Branch) (linked : AreLinked bs) where
  pub from_at : (i : ℕ) (b : Branch) → slice_get bs i ≡ Some b → from_of bs i ≡ b.0.from
  from_at i b h = ap (option_and_then (λ (x : Branch). x.0.from)) h

  -- The ancestry of branch i.
  pub end_at-is : (i : ℕ) (b : Branch) → slice_get bs i ≡ Some b → end_at bs i ≡ path_of bs b.0.from ++ b.0.rev ∷ b.1.items
  end_at-is i b h =
      ap (λ (o : Option (List RevId)). unwrap_or o []) (ends_after-at [] bs i b h)
      ∙ ap (λ (t : List RevId). t ++ b.0.rev ∷ b.1.items) (path_in-take (ends_of bs) i b.0.from (λ p e. (linked i p (from_at i b h ∙ e)).earlier))

  -- The number of revisions before the branch's first revision.
  pub length-from : (i : ℕ) (at : Option Point) → from_of bs i ≡ at → length (path_of bs at) ≡ count_of at
  length-from i None h = refl
  length-from i (Some p) h = length-take-le p.count (end_at bs p.branch) (linked i p h).reached

  -- A list that lacks branch i stores no ancestry for this branch.
  pub end_none : (i : ℕ) → None ≡ slice_get bs i → end_at bs i ≡ []
  end_none i h = ap (λ (o : Option (List RevId)). unwrap_or o []) (slice_get_past (ends_of bs) i (subst (λ n. n ≤ i) (sym (length-ends_after [] bs)) (past bs i h)))

  -- The revision at an index of branch i's ancestry, if branch i stores this revision.
  abbrev pub stored_in : ℕ → ℕ → Option RevId
  stored_in i index = if nat_lt index (count_of (from_of bs i)) then None else slice_get (end_at bs i) index

  pub stored_none : (i index : ℕ) → None ≡ slice_get bs i → None ≡ stored_in i index
  stored_none i index h =
      sym (cond-false (nat_lt index (count_of (from_of bs i))) None (slice_get (end_at bs i) index)
      (le-ltb index (count_of (from_of bs i)) (subst (λ (o : Option Branch). count_of (option_and_then (λ (x : Branch). x.0.from) o) ≤ index) h (omega arith)))
      ∙ ap (λ (l : List RevId). slice_get l index) (end_none i h))

  pub stored_before : (i index : ℕ) (b : Branch) → Some b ≡ slice_get bs i → index < count_of b.0.from → None ≡ stored_in i index
  stored_before i index b h low =
      sym (cond-true (nat_lt index (count_of (from_of bs i))) None (slice_get (end_at bs i) index)
      (lt-ltb index (count_of (from_of bs i)) (subst (λ (o : Option Point). index < count_of o) (sym (from_at i b (sym h))) low)))

  pub stored_at : (i index k : ℕ) (b : Branch) → Some b ≡ slice_get bs i → index ≡ count_of b.0.from + k
      → slice_get (b.0.rev ∷ b.1.items) k ≡ stored_in i index
  stored_at i index k b h e =
      sym (cond-false (nat_lt index (count_of (from_of bs i))) None (slice_get (end_at bs i) index)
      (le-ltb index (count_of (from_of bs i)) (subst (λ (o : Option Point). count_of o ≤ index) (sym (from_at i b (sym h))) (omega arith)))
      ∙ ap (λ (l : List RevId). slice_get l index) (end_at-is i b (sym h))
      ∙ slice_get-append_right (path_of bs b.0.from) (b.0.rev ∷ b.1.items) index k
      (e ∙ ap (λ n. n + k) (sym (length-from i b.0.from (from_at i b (sym h))))))

  pub stored_later : (i index k : ℕ) (b : Branch) → Some b ≡ slice_get bs i → index ≡ count_of b.0.from + suc k
      → slice_get b.1.items k ≡ stored_in i index
  stored_later i index k b h e = stored_at i index (suc k) b h e

  pub stored_is : (i index : ℕ) (r : RevId) → Some r ≡ stored_in i index → slice_get (end_at bs i) index ≡ Some r
  stored_is i index r h = by (nat_lt index (count_of (from_of bs i))) refl
    where
      by : (b : Bool) → nat_lt index (count_of (from_of bs i)) ≡ b → slice_get (end_at bs i) index ≡ Some r
      by true e = absurd (none-some r (sym (h ∙ cond-true (nat_lt index (count_of (from_of bs i))) None (slice_get (end_at bs i) index) e)))
      by false e = sym (h ∙ cond-false (nat_lt index (count_of (from_of bs i))) None (slice_get (end_at bs i) index) e)

  -- The number of revisions of branch i's ancestry.
  pub length-end : (i : ℕ) (b : Branch) → Some b ≡ slice_get bs i → length (end_at bs i) ≡ count_of b.0.from + length (b.0.rev ∷ b.1.items)
  length-end i b h =
      ap length (end_at-is i b (sym h)) ∙ length-append (path_of bs b.0.from) (b.0.rev ∷ b.1.items)
      ∙ ap (λ n. n + length (b.0.rev ∷ b.1.items)) (length-from i b.0.from (from_at i b (sym h)))

  -- The ancestry of a branch begins with the ancestry of its first revision's parent.
  pub climbed : (i n : ℕ) (p : Point) → from_of bs i ≡ Some p → n ≤ p.count → take n (end_at bs p.branch) ≡ take n (end_at bs i)
  climbed i n p h low =
      option_and_then_some (λ (b : Branch). b.0.from) (slice_get bs i) p h (λ b at from.
      sym (ap (take n) (end_at-is i b at ∙ ap (λ (o : Option Point). path_of bs o ++ b.0.rev ∷ b.1.items) from)
      ∙ take-append-le n (path_of bs (Some p)) (b.0.rev ∷ b.1.items)
      (subst (λ m. n ≤ m) (sym (length-from i (Some p) h)) low)
      ∙ take-take n p.count (end_at bs p.branch) low))

  pub climbed_at : (i index : ℕ) (p : Point) → from_of bs i ≡ Some p → index < p.count
      → slice_get (end_at bs p.branch) index ≡ slice_get (end_at bs i) index
  climbed_at i index p h low =
      sym (slice_get-take p.count (end_at bs p.branch) index low)
      ∙ ap (λ (l : List RevId). slice_get l index) (climbed i p.count p h (omega arith))
      ∙ slice_get-take p.count (end_at bs i) index low

  -- The next revision in a branch.
  pub follows_in : (p : Point) (r : RevId) → slice_get (end_at bs p.branch) p.count ≡ Some r → Follows bs (Some p) r p.branch
  follows_in p r h =
      let low : p.count < length (end_at bs p.branch) = slice_get_within (end_at bs p.branch) p.count r h in
      record {
        stored = within p.branch low;
        reached = omega arith;
        path = take-next (end_at bs p.branch) p.count r h;
      }
    where
      within : (i : ℕ) → p.count < length (end_at bs i) → i < length bs
      within i low = by (slice_get bs i) refl
        where
          by : (o : Option Branch) → slice_get bs i ≡ o → i < length bs
          by (Some b) e = slice_get_within bs i b e
          by None e = absurd (subst (λ (l : List RevId). p.count < length l → ⊥)
              (sym (end_none i (sym e)))
              (λ k. omega arith) low)

  -- The first revision of a branch follows its parent.
  pub follows_from : (i : ℕ) (b : Branch) → slice_get bs i ≡ Some b → Follows bs b.0.from b.0.rev i
  follows_from i b h =
      let n = length-end i b (sym h) in
      let m = length-from i b.0.from (from_at i b h) in
      record {
        stored = slice_get_within bs i b h;
        reached = omega arith;
        path = ap (take (count_of b.0.from + 1)) (end_at-is i b h)
            ∙ ap (λ k. take (k + 1) (path_of bs b.0.from ++ b.0.rev ∷ b.1.items)) (sym m)
            ∙ take-append-add (path_of bs b.0.from) (b.0.rev ∷ b.1.items) 1
            ∙ ap (λ (l : List RevId). path_of bs b.0.from ++ b.0.rev ∷ l) (take-zero b.1.items);
      }
    where
      take-zero : (l : List RevId) → take 0 l ≡ []
      take-zero l = refl

  module _ (p q : Point) (one other count : ℕ) (joined : IsJoined bs p q one other count) where
    shorter : (n : ℕ) (xs ys : List RevId) → take count xs ≡ take count ys → n ≤ count → take n xs ≡ take n ys
    shorter n xs ys e low = sym (take-take n count xs low) ∙ ap (take n) e ∙ take-take n count ys low

    -- The first branch is left.
    pub joined_first : (from : Point) (n : ℕ) → from_of bs one ≡ Some from → n ≡ min count from.count → IsJoined bs p q from.branch other n
    joined_first from n h e =
        let low : n ≤ count = omega arith in
        let within : n ≤ from.count = omega arith in
        record {
          first = climbed one n from h within ∙ shorter n (end_at bs one) (path_of bs (Some p)) joined.first low;
          second = shorter n (end_at bs other) (path_of bs (Some q)) joined.second low;
          in_first = omega (arith, joined.in_first);
          in_second = omega (arith, joined.in_second);
        }

    -- The second branch is left.
    pub joined_second : (from : Point) (n : ℕ) → from_of bs other ≡ Some from → n ≡ min count from.count → IsJoined bs p q one from.branch n
    joined_second from n h e =
        let low : n ≤ count = omega arith in
        let within : n ≤ from.count = omega arith in
        record {
          first = shorter n (end_at bs one) (path_of bs (Some p)) joined.first low;
          second = climbed other n from h within ∙ shorter n (end_at bs other) (path_of bs (Some q)) joined.second low;
          in_first = omega (arith, joined.in_first);
          in_second = omega (arith, joined.in_second);
        }

-- ---- one more branch

module _ (bs more : List Branch) where
  pub end_at-kept : (i : ℕ) → i < length bs → end_at (bs ++ more) i ≡ end_at bs i
  end_at-kept i h =
      ap (λ (ends : List (List RevId)). unwrap_or (slice_get ends i) []) (ends_after-append [] bs more)
      ∙ ap (λ (o : Option (List RevId)). unwrap_or o [])
      (slice_get-append (ends_of bs) (ends_after (ends_of bs) more) i (subst (λ n. i < n) (sym (length-ends_after [] bs)) h))

  pub path_of-kept : (at : Option Point) → ((p : Point) → at ≡ Some p → p.branch < length bs) → path_of (bs ++ more) at ≡ path_of bs at
  path_of-kept None h = refl
  path_of-kept (Some p) h = ap (take p.count) (end_at-kept p.branch (h p refl))

  pub within_kept : (i : ℕ) (p : Point) → p.branch < length bs → IsWithin bs i p → IsWithin (bs ++ more) i p
  within_kept i p low h = record { earlier = h.earlier; reached = subst (λ (l : List RevId). p.count ≤ length l) (sym (end_at-kept p.branch low)) h.reached }

module _ (bs : List Branch) (linked : AreLinked bs) (b : Branch) (within : (p : Point) → b.0.from ≡ Some p → IsWithin bs (length bs) p) where
  -- The links after one more branch.
  pub linked_more : AreLinked (bs ++ b ∷ [])
  linked_more i p h = by (cases_order i (length bs))
    where
      old : (j : ℕ) → j < length bs → from_of (bs ++ b ∷ []) j ≡ from_of bs j
      old j low = ap (option_and_then (λ (y : Branch). y.0.from)) (slice_get-append bs (b ∷ []) j low)

      new : (j k : ℕ) → j ≡ length bs + k → from_of (bs ++ b ∷ []) j ≡ from_of (b ∷ []) k
      new j k e = ap (option_and_then (λ (y : Branch). y.0.from)) (slice_get-append_right bs (b ∷ []) j k e)

      kept : (j : ℕ) → j ≤ length bs → IsWithin bs j p → IsWithin (bs ++ b ∷ []) j p
      kept j low t = within_kept bs (b ∷ []) j p (let e = t.earlier in omega arith) t

      by : (i ≡ length bs) ⊎ ((i < length bs) ⊎ (length bs < i)) → IsWithin (bs ++ b ∷ []) i p
      by (inl e) = kept i (omega arith) (subst (λ j. IsWithin bs j p) (sym e) (within p (sym (new i 0 (omega arith)) ∙ h)))
      by (inr (inl low)) = kept i (omega arith) (linked i p (sym (old i low) ∙ h))
      by (inr (inr high)) = past_end (i - length bs) (omega arith) (omega arith)
        where
          past_end : (k : ℕ) → 0 < k → i ≡ length bs + k → IsWithin (bs ++ b ∷ []) i p
          past_end zero low e = absurd (omega arith)
          past_end (suc k) low e = absurd (none-some p (sym (new i (suc k) e) ∙ h))

  -- The new branch's first revision follows its parent.
  pub follows_more : Follows (bs ++ b ∷ []) b.0.from b.0.rev (length bs)
  follows_more =
      let e : length bs ≡ length bs + 0 = omega arith in
      follows_from (bs ++ b ∷ []) linked_more (length bs) b (slice_get-append_right bs (b ∷ []) (length bs) 0 e)

-- ---- equal starts

point_is : (p q : Point) → (PointPartialEq.eq-value).it p q ≡ true → p ≡ q
point_is p q h =
    let parts = and_parts (nat_eq p.branch q.branch) (nat_eq p.count q.count) h in
    let branch = eqb-true _ _ parts.0 in
    let count = eqb-true _ _ parts.1 in
    λ i. record { branch = branch i; count = count i }

pub from_is : (p q : Option Point) → option_eq (PointPartialEq.eq-value).it p q ≡ true → p ≡ q
from_is None None h = refl
from_is None (Some q) h = absurd (false≢true h)
from_is (Some p) None h = absurd (false≢true h)
from_is (Some p) (Some q) h = ap Some (point_is p q h)

-- Two starts that `==` calls equal are equal.
pub start_is : (a b : Start) → (StartPartialEq.eq-value).it a b ≡ true → a ≡ b
start_is a b h =
    let parts = and_parts (option_eq (PointPartialEq.eq-value).it a.from b.from) (eq_by_cmp rev_cmp a.rev b.rev) h in
    let from = from_is a.from b.from parts.0 in
    let rev = rev_tie_is a.rev b.rev parts.1 in
    λ i. record { from = from i; rev = rev i }

-- ---- finding and adding a branch

-- The branch that a look-up of a start finds.
pub found : (bs : List Branch) (start : Start) (i : ℕ) → position ((StartPartialEq.eq-value).it start) (keys_of bs) ≡ Some i
    → (b : Branch) × (slice_get bs i ≡ Some b) × (b.0 ≡ start)
found bs start i h =
    let at = position-Some ((StartPartialEq.eq-value).it start) (keys_of bs) i start h in
    by (slice_get bs i) refl at.0 at.1
  where
    key : (b : Branch) → slice_get bs i ≡ Some b → get_or (keys_of bs) i start ≡ b.0
    key b e = get_or_from_slice_get (keys_of bs) i b.0 start (slice_get-map (λ (x : Branch). x.0) bs i ∙ ap (option_map (λ (x : Branch). x.0)) e)

    by : (o : Option Branch) → slice_get bs i ≡ o → i < length (keys_of bs) → (StartPartialEq.eq-value).it start (get_or (keys_of bs) i start) ≡ true
        → (b : Branch) × (slice_get bs i ≡ Some b) × (b.0 ≡ start)
    by None e low same = absurd (let n = past bs i (sym e) in let m = length-map bs (λ (x : Branch). x.0) in omega (arith, n, m))
    by (Some b) e low same = (b, e, sym (start_is start b.0 (ap ((StartPartialEq.eq-value).it start) (sym (key b e)) ∙ same)))

none_of : {X : Type 0} (o : Option X) → false ≡ is_some o → o ≡ None
none_of None h = refl
none_of (Some x) h = absurd (false≢true h)

-- The branches after a new start is inserted.
pub inserted : {S : Type 0} (m : HashMap Start (Vec RevId Global) S) (start : Start) (rest : Vec RevId Global)
    → false ≡ is_some (get_by ((StartPartialEq.eq-value).it start) m)
    → insert_entry (StartPartialEq.eq-value).it m.entries start rest ≡ m.entries ++ (start, rest) ∷ []
inserted m start rest h = insert_entry-new (StartPartialEq.eq-value).it m start rest (none_of _ h)
