-- The number of revisions without a node: space is reserved for them.
use Rattle.proof_prelude.proofs.{◌≡◌, ℕ, zero, suc, ◌+◌, ◌<◌, ◌≤◌, List, [], ◌∷◌, length, take, get_or, Some, None, true, false, ◌||◌, cond, is_some, slice_get, sym, ap, ◌∙◌, refl, arith, false≢true, same_Some, eq_by_cmp}
use Rattle.rev_core.specs.{RevId, rev_cmp, is_among}
use Rattle.rev_tree.specs.{NodeValue, count_new, place_of, revs_in, unless_among}
use Rattle.rev_tree.proofs.Places.{is_some-node_of, place_none}

-- a revision counts at most once
most_once : (known : List RevId) (r : RevId) → unless_among known r ≤ 1
most_once known r = elim (is_among r known) as (λ b. cond b 0 1 ≤ 1) [
  | true ↦ omega arith
  | false ↦ omega arith
]

pub count_within : (known revs : List RevId) → count_new known revs ≤ length revs
count_within known [] = omega arith
count_within known (r ∷ revs) = omega (arith, most_once known r, count_within known revs)

-- if there are no nodes, all revisions count
pub all_new : (nodes : List NodeValue) (revs : List RevId) → length nodes ≡ 0 → count_new (revs_in nodes) revs ≡ length revs
all_new [] [] none = refl
all_new [] (r ∷ revs) none = omega (arith, all_new [] revs refl)
all_new (n ∷ nodes) revs none = absurd (omega (arith, none))

-- the next revision counts if it is new
pub count_next : (known revs : List RevId) (i : ℕ) (d : RevId) → i < length revs → count_new known (take (i + 1) revs) ≡ count_new known (take i revs) + unless_among known (get_or revs i d)
count_next known [] i d low = absurd (omega arith)
count_next known (r ∷ revs) zero d low = omega arith
count_next known (r ∷ revs) (suc j) d low =
    let e : suc j + 1 ≡ suc (j + 1) = omega arith in
    let later : count_new known (take (suc j + 1) (r ∷ revs)) ≡ unless_among known r + count_new known (take (j + 1) revs) = ap (λ n. count_new known (take n (r ∷ revs))) e in
    omega (arith, later, count_next known revs j d (omega (arith, low)))

-- a revision without an index is new
pub new_counts : (nodes : List NodeValue) (r : RevId) → place_of nodes r ≡ None → unless_among (revs_in nodes) r ≡ 1
new_counts nodes r none = ap (λ b. cond b 0 1) (sym (is_some-node_of nodes r) ∙ sym (place_none nodes r 0) ∙ ap is_some none)

-- a revision with an index is not new
pub known_counts_not : (nodes : List NodeValue) (r : RevId) (k : ℕ) → place_of nodes r ≡ Some k → unless_among (revs_in nodes) r ≡ 0
known_counts_not nodes r k at = ap (λ b. cond b 0 1) (sym (is_some-node_of nodes r) ∙ sym (place_none nodes r 0) ∙ ap is_some at)

-- a member stays a member if each element keeps its index
among_kept : (r : RevId) (old new : List RevId) → ((i : ℕ) (q : RevId) → slice_get old i ≡ Some q → slice_get new i ≡ Some q) → is_among r old ≡ true → is_among r new ≡ true
among_kept r [] new kept h = absurd (false≢true h)
among_kept r (q ∷ old) [] kept h = absurd (false≢true (ap is_some (kept 0 q refl)))
among_kept r (q ∷ old) (s ∷ new) kept h =
    let first : s ≡ q = same_Some s q (kept 0 q refl) in
    elim (eq_by_cmp rev_cmp r q) as (λ b. eq_by_cmp rev_cmp r q ≡ b → (b || is_among r old) ≡ true → (eq_by_cmp rev_cmp r s || is_among r new) ≡ true) [
      | true ↦ λ tie k. ap (λ b. b || is_among r new) (ap (eq_by_cmp rev_cmp r) first ∙ tie)
      | false ↦ λ tie k. ap (λ b. b || is_among r new) (ap (eq_by_cmp rev_cmp r) first ∙ tie) ∙ among_kept r old new (λ i x at. kept (suc i) x at) k
    ] refl h

-- then no more revisions are new
fewer_once : (r : RevId) (old new : List RevId) → ((i : ℕ) (q : RevId) → slice_get old i ≡ Some q → slice_get new i ≡ Some q) → unless_among new r ≤ unless_among old r
fewer_once r old new kept =
    elim (is_among r old) as (λ b. is_among r old ≡ b → unless_among new r ≤ cond b 0 1) [
      | true ↦ λ known. let none : unless_among new r ≡ 0 = ap (λ b. cond b 0 1) (among_kept r old new kept known) in omega (arith, none)
      | false ↦ λ unknown. most_once new r
    ] refl

pub fewer_new : (old new revs : List RevId) → ((i : ℕ) (q : RevId) → slice_get old i ≡ Some q → slice_get new i ≡ Some q) → count_new new revs ≤ count_new old revs
fewer_new old new [] kept = omega arith
fewer_new old new (r ∷ revs) kept = omega (arith, fewer_once r old new kept, fewer_new old new revs kept)
