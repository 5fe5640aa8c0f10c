-- Lemmas: the ancestries of a set of ancestries, and what two ancestries share.
use Rattle.proof_prelude.proofs.{◌≡◌, ℕ, zero, suc, ◌+◌, ◌-◌, ◌<◌, ◌≤◌, Bool, true, false, List, [], ◌∷◌, ◌++◌, Option, Some, None, Ordering, Less, Equal, Greater, IfSome, length, min, take, drop, slice_get, get_or, refl, sym, ap, ◌∙◌, subst, arith, append_assoc, length-append, none-some, same_Some, eq_by_cmp, ordering_then, cond, cond-true, option_copied, tied_itself, Bor}
use Rattle.std.specs.Option.{option_cmp, option_eq}
use Rattle.std.specs.Cmp.Lexicographic.{slice_cmp}
use Rattle.std.specs.Ordering.{is_eq}
use Rattle.std.proofs.lemmas.List.Sums.{common_prefix_len-drop_no, common_prefix_len-drop_yes, common_prefix_len-le}
use Rattle.rev_core.specs.{RevId, rev_cmp, rev_cmp_total, rev_tie_self}
use Rattle.diagrams.specs.contracts.ancestries.PointPartialEq.TheImpl as PointPartialEq
use Rattle.diagrams.specs.declared.ancestries.Ancestries.{Ancestries}
use Rattle.diagrams.specs.declared.ancestries.Point.{Point}
use Rattle.diagrams.specs.Ancestries.{IsStored, Keeps, ancestry_of, newest_generation, shared_count}
use Rattle.diagrams.specs.Branches.{Branch, Extends, Follows, IsWithin, end_at, path_of}
use Rattle.diagrams.proofs.BranchLemmas.{HasAdded, from_is, path_of-kept, past, slice_get-take, take-next}

-- ---- adding an ancestry

slice_get-drop : {X : Type 0} (xs : List X) (i : ℕ) → slice_get (drop i xs) 0 ≡ slice_get xs i
slice_get-drop [] zero = refl
slice_get-drop [] (suc i) = refl
slice_get-drop (x ∷ xs) zero = refl
slice_get-drop (x ∷ xs) (suc i) = slice_get-drop xs i

pub extends_then : (old mid new : List Branch) → Extends old mid → Extends mid new → Extends old new
extends_then old mid new h k = (h.0 ++ k.0, k.1 ∙ ap (λ (l : List Branch). l ++ k.0) h.1 ∙ append_assoc old h.0 k.0)

pub keeps_from : (old new : Ancestries) → Extends old.branches.entries new.branches.entries → Keeps old new
keeps_from old new h = record { stored = stored; same = same }
  where
    bs : List Branch
    bs = old.branches.entries

    stored : (at : Option Point) → IsStored old at → IsStored new at
    stored None k = tt
    stored (Some p) k =
        subst (λ (l : List Branch). p.branch < length l) (sym h.1)
        (let n = length-append old.branches.entries h.0 in omega (arith, n, k))

    same : (at : Option Point) → IsStored old at → ancestry_of new at ≡ ancestry_of old at
    same at k =
        ap (λ (l : List Branch). path_of l at) h.1
        ∙ path_of-kept old.branches.entries h.0 at (λ p e. subst (IsStored old) e k)

-- One more revision is stored.
pub added_next : (old mid new : List Branch) (revs : List RevId) (count : ℕ) (at : Option Point) (i : ℕ) → HasAdded old mid revs count at
    → Extends mid new → count < length revs → ((r : RevId) → slice_get (take (length revs - count) (drop count revs)) 0 ≡ Some r → Follows new at r i)
    → HasAdded old new revs (count + 1) (Some (record { branch = i; count = count + 1 }))
added_next old mid new revs count at i h more low next = by (slice_get revs count) refl
  where
    kept : path_of new at ≡ path_of mid at
    kept = ap (λ (l : List Branch). path_of l at) more.1
        ∙ path_of-kept mid more.0 at (λ p e. (subst (λ (o : Option Point). IfSome o (λ q. IsWithin mid (length mid) q)) e h.within).earlier)

    by : (o : Option RevId) → slice_get revs count ≡ o → HasAdded old new revs (count + 1) (Some (record { branch = i; count = count + 1 }))
    by None e = absurd (let n = past revs count (sym e) in omega (arith, n))
    by (Some r) e =
        let f = next r (slice_get-take (length revs - count) (drop count revs) 0 (omega arith) ∙ slice_get-drop revs count ∙ e) in
        record {
          extends = extends_then old mid new h.extends more;
          counts = refl;
          path = ap (λ n. take (n + 1) (end_at new i)) (sym h.counts) ∙ f.path
              ∙ ap (λ (l : List RevId). l ++ r ∷ []) (kept ∙ h.path) ∙ sym (take-next revs count r e);
          within = record { earlier = f.stored; reached = subst (λ n. n + 1 ≤ length (end_at new i)) h.counts f.reached };
        }

-- ---- what two ancestries share

-- The revision that a proof gives where a list has none.
pub nothing : RevId
nothing = record { generation = 0; sig = [] }

-- Two ancestries that begin with the same n revisions.
pub shared_after : (n : ℕ) (xs ys : List RevId) → take n xs ≡ take n ys → n ≤ length xs → n ≤ length ys
    → shared_count xs ys ≡ n + shared_count (drop n xs) (drop n ys)
shared_after zero xs ys e h k = omega arith
shared_after (suc n) [] ys e h k = absurd (omega arith)
shared_after (suc n) (x ∷ xs) [] e h k = absurd (omega arith)
shared_after (suc n) (x ∷ xs) (y ∷ ys) e h k =
    let first : x ≡ y = same_Some x y (ap (λ (l : List RevId). slice_get l 0) e) in
    let rest = shared_after n xs ys (ap (drop 1) e) (omega arith) (omega arith) in
    cond-true _ _ _ (subst (λ (z : RevId). eq_by_cmp rev_cmp x z ≡ true) first (rev_tie_self x)) ∙ omega (arith, rest)

module _ (xs ys : List RevId) (index : ℕ) (before : shared_count xs ys ≡ index + shared_count (drop index xs) (drop index ys)) where
  module _ (low : index < length xs) (high : index < length ys) where
    -- The first revision that is not shared.
    pub shared_ends : (b : Bool) → b ≡ eq_by_cmp rev_cmp (get_or xs index nothing) (get_or ys index nothing) → b ≡ false → index ≡ shared_count xs ys
    shared_ends b e f =
        let none = common_prefix_len-drop_no (eq_by_cmp rev_cmp) xs ys index nothing nothing low high (sym e ∙ f) in
        omega (arith, before, none)

    -- One more revision that is shared.
    pub shared_more : (b : Bool) → b ≡ eq_by_cmp rev_cmp (get_or xs index nothing) (get_or ys index nothing) → b ≡ true
        → shared_count xs ys ≡ index + 1 + shared_count (drop (index + 1) xs) (drop (index + 1) ys)
    shared_more b e f =
        let one = common_prefix_len-drop_yes (eq_by_cmp rev_cmp) xs ys index nothing nothing low high (sym e ∙ f) in
        omega (arith, before, one)

  -- One ancestry has no further revision.
  pub shared_all : index ≡ min (length xs) (length ys) → index ≡ shared_count xs ys
  shared_all e =
      let most = common_prefix_len-le (eq_by_cmp rev_cmp) xs ys in
      let first = most.0 in
      let second = most.1 in
      omega (arith, before, first, second)

-- ---- the newest shared revision

pub newest_at : (xs : List RevId) (n : ℕ) (r : RevId) → slice_get xs n ≡ Some r → r.generation ≡ newest_generation (take (suc n) xs)
newest_at [] n r h = absurd (none-some r h)
newest_at (x ∷ xs) zero r h = ap (λ (y : RevId). y.generation) (sym (same_Some x r h))
newest_at (x ∷ []) (suc n) r h = absurd (none-some r h)
newest_at (x ∷ (y ∷ xs)) (suc n) r h = newest_at (y ∷ xs) n r h

pub newest_shared : (xs ys : List RevId) (n : ℕ) (r : RevId) → n ≡ shared_count xs ys → (n ≡ 0 → ⊥) → Some r ≡ slice_get xs (n - 1)
    → r.generation ≡ newest_generation (take (shared_count xs ys) xs)
newest_shared xs ys zero r e some h = absurd (some refl)
newest_shared xs ys (suc n) r e some h =
    newest_at xs n r (ap (slice_get xs) (let k : n ≡ suc n - 1 = omega arith in k) ∙ sym h)
    ∙ ap (λ k. newest_generation (take k xs)) e

pub none_shared : (xs ys : List RevId) (n : ℕ) → n ≡ shared_count xs ys → (n ≡ 0 → ⊥) → None ≡ slice_get xs (n - 1) → ⊥
none_shared xs ys n e some h =
    let low = past xs (n - 1) h in
    let most = (common_prefix_len-le (eq_by_cmp rev_cmp) xs ys).0 in
    let positive : 0 < n = above n some in
    omega (arith, low, most, positive, e)
  where
    above : (m : ℕ) → (m ≡ 0 → ⊥) → 0 < m
    above zero f = absurd (f refl)
    above (suc m) f = omega arith

-- ---- comparing two ancestries

pub cmp_self : (xs : List RevId) → slice_cmp rev_cmp xs xs ≡ Equal
cmp_self [] = refl
cmp_self (x ∷ xs) = ap (λ o. ordering_then o (slice_cmp rev_cmp xs xs)) (tied_itself rev_cmp_total x) ∙ cmp_self xs

pub cmp_same : (a : Ancestries) (one other : Option Point) → true ≡ option_eq (PointPartialEq.eq-value).it one other
    → Equal ≡ slice_cmp rev_cmp (ancestry_of a one) (ancestry_of a other)
cmp_same a one other h =
    sym (cmp_self (ancestry_of a one)) ∙ ap (λ (o : Option Point). slice_cmp rev_cmp (ancestry_of a one) (ancestry_of a o)) (from_is one other (sym h))

cmp_refs : (x y : Option (Bor RevId)) → option_cmp (λ (a b : Bor RevId). rev_cmp a.now b.now) x y ≡ option_cmp rev_cmp (option_copied x) (option_copied y)
cmp_refs None None = refl
cmp_refs None (Some y) = refl
cmp_refs (Some x) None = refl
cmp_refs (Some x) (Some y) = refl

-- The first revisions that differ decide the order.
cmp_at : (xs ys : List RevId) → option_cmp rev_cmp (slice_get xs (shared_count xs ys)) (slice_get ys (shared_count xs ys)) ≡ slice_cmp rev_cmp xs ys
cmp_at [] [] = refl
cmp_at [] (y ∷ ys) = refl
cmp_at (x ∷ xs) [] = refl
cmp_at (x ∷ xs) (y ∷ ys) = by (rev_cmp x y) refl (cmp_at xs ys)
  where
    by : (o : Ordering) → rev_cmp x y ≡ o
        → option_cmp rev_cmp (slice_get xs (shared_count xs ys)) (slice_get ys (shared_count xs ys)) ≡ slice_cmp rev_cmp xs ys
        → option_cmp rev_cmp (slice_get (x ∷ xs) (cond (is_eq o) (1 + shared_count xs ys) 0)) (slice_get (y ∷ ys) (cond (is_eq o) (1 + shared_count xs ys) 0))
        ≡ ordering_then o (slice_cmp rev_cmp xs ys)
    by Less e rest = e
    by Greater e rest = e
    by Equal e rest =
        let one : 1 + shared_count xs ys ≡ suc (shared_count xs ys) = omega arith in
        ap (λ m. option_cmp rev_cmp (slice_get (x ∷ xs) m) (slice_get (y ∷ ys) m)) one ∙ rest

pub cmp_decides : (xs ys : List RevId) (n : ℕ) (x y : Option (Bor RevId)) → n ≡ shared_count xs ys → option_copied x ≡ slice_get xs n → option_copied y ≡ slice_get ys n
    → option_cmp (λ (a b : Bor RevId). rev_cmp a.now b.now) x y ≡ slice_cmp rev_cmp xs ys
cmp_decides xs ys n x y e h k =
    cmp_refs x y ∙ (λ i. option_cmp rev_cmp (h i) (k i))
    ∙ ap (λ m. option_cmp rev_cmp (slice_get xs m) (slice_get ys m)) e ∙ cmp_at xs ys
