-- The rising ends: the window of an end found by binary search.
use Rattle.proof_prelude.proofs.{◌≡◌, ◌⊎◌, inl, inr, ℕ, zero, suc, ◌<◌, ◌≤◌, ◌-◌, Bool, true, false, ◌&&◌, ◌||◌, eqb, List, [], ◌∷◌, ◌++◌, length, get_or, Result, Ok, Err, refl, ap, ◌∙◌, arith, and_right, and_parts, or_from, or_cases, cases_lt, searched, IsBinarySearchResult, nat_cmp, ne_eqb, eq-eqb, eqb-true}
use Rattle.range_front.specs.{Rising, has_window, IsBound}

from-le : (from : ℕ) (es : List ℕ) (j : ℕ) → Rising from es → j < length es → from < get_or es j 0
from-le from [] j h l = absurd (omega (arith, l))
from-le from (e ∷ es) zero h l = h.0
from-le from (e ∷ es) (suc j) h l = omega (arith, h.0, from-le e es j h.1 (omega (arith, l)))

rising-at : (from : ℕ) (es : List ℕ) (i j : ℕ) → Rising from es → i ≤ j → j < length es → get_or es i 0 ≤ get_or es j 0
rising-at from [] i j h le l = absurd (omega (arith, l))
rising-at from (e ∷ es) zero zero h le l = omega arith
rising-at from (e ∷ es) zero (suc j) h le l = omega (arith, from-le e es j h.1 (omega (arith, l)))
rising-at from (e ∷ es) (suc i) zero h le l = absurd (omega (arith, le))
rising-at from (e ∷ es) (suc i) (suc j) h le l = rising-at e es i j h.1 (omega (arith, le)) (omega (arith, l))

-- the beginning of the window at an index
abbrev pub begin_at : ℕ → List ℕ → ℕ → ℕ
begin_at from es zero = from
begin_at from es (suc i) = get_or es i 0

begin_at-next : (from e : ℕ) (es : List ℕ) (i : ℕ) → begin_at e es i ≡ begin_at from (e ∷ es) (suc i)
begin_at-next from e es zero = refl
begin_at-next from e es (suc i) = refl

pub begin_at-before : (from : ℕ) (es : List ℕ) (i : ℕ) → (i ≡ 0 → ⊥) → begin_at from es i ≡ get_or es (i - 1) 0
begin_at-before from es zero n = absurd (n refl)
begin_at-before from es (suc i) n = let e : i ≡ suc i - 1 = omega arith in ap (λ k. get_or es k 0) e

-- no window ends at or below the beginning of the first
has-below : (from : ℕ) (es : List ℕ) (lo hi : ℕ) → Rising from es → hi ≤ from → has_window from es lo hi ≡ false
has-below from [] lo hi h l = refl
has-below from (e ∷ es) lo hi h l =
    or_from _ _ (and_right (eqb from lo) _ (ne_eqb e hi (λ q. omega (arith, q, h.0, l)))) (has-below e es lo hi h.1 (omega (arith, h.0, l)))

-- the one window that ends at hi
has-at : (from : ℕ) (es : List ℕ) (lo hi i : ℕ) → Rising from es → i < length es → get_or es i 0 ≡ hi → has_window from es lo hi ≡ eqb (begin_at from es i) lo
has-at from [] lo hi i h l e = absurd (omega (arith, l))
has-at from (x ∷ es) lo hi zero h l e =
    alone (eqb from lo) (eqb x hi) (has_window x es lo hi) (eq-eqb x hi e) (has-below x es lo hi h.1 (omega (arith, e)))
  where
    alone : (a b r : Bool) → b ≡ true → r ≡ false → ((a && b) || r) ≡ a
    alone true b r p q = ap (λ z. z || r) p
    alone false b r p q = q
has-at from (x ∷ es) lo hi (suc i) h l e =
    let ne : eqb x hi ≡ false = ne_eqb x hi (λ q. omega (arith, q, e, from-le x es i h.1 (omega (arith, l)))) in
    ap (λ z. z || has_window x es lo hi) (and_right (eqb from lo) (eqb x hi) ne) ∙ has-at x es lo hi i h.1 (omega (arith, l)) e ∙ ap (λ n. eqb n lo) (begin_at-next from x es i)

-- no window ends at hi
has-none : (from : ℕ) (es : List ℕ) (lo hi : ℕ) → ((k : ℕ) → k < length es → get_or es k 0 ≡ hi → ⊥) → has_window from es lo hi ≡ false
has-none from [] lo hi h = refl
has-none from (e ∷ es) lo hi h =
    or_from _ _ (and_right (eqb from lo) _ (ne_eqb e hi (h 0 (omega arith)))) (has-none e es lo hi (λ k l q. h (suc k) (omega (arith, l)) q))

-- the result of the search for hi
pub has-found : (from : ℕ) (es : List ℕ) (lo hi i : ℕ) (r : Result ℕ ℕ) → Rising from es → IsBinarySearchResult (λ y. nat_cmp y hi) es r → r ≡ Ok i → has_window from es lo hi ≡ eqb (begin_at from es i) lo
has-found from es lo hi i r h s e =
    let found = rw e at (searched es hi r s (λ j k le l. rising-at from es j k h le l)) in
    has-at from es lo hi i h found.0 found.1

pub has-missed : (from : ℕ) (es : List ℕ) (lo hi i : ℕ) (r : Result ℕ ℕ) → Rising from es → IsBinarySearchResult (λ y. nat_cmp y hi) es r → r ≡ Err i → has_window from es lo hi ≡ false
has-missed from es lo hi i r h s e =
    let missed = rw e at (searched es hi r s (λ j k le l. rising-at from es j k h le l)) in
    has-none from es lo hi (λ k l q. elim (cases_lt k i) [
      | inl before ↦ omega (arith, missed.1 k before, q)
      | inr behind ↦ omega (arith, missed.2 k behind l, q)
    ])

-- ---- bounds of windows

pub bound-le : (from : ℕ) (es : List ℕ) (x : ℕ) → Rising from es → IsBound from es x → from ≤ x
bound-le from [] x h b = omega (arith, b)
bound-le from (e ∷ es) x h (inl q) = omega (arith, q)
bound-le from (e ∷ es) x h (inr b) = omega (arith, h.0, bound-le e es x h.1 b)

-- a bound above the first one is a later one
pub bound-next : (from e : ℕ) (es : List ℕ) (x : ℕ) → from < x → IsBound from (e ∷ es) x → IsBound e es x
bound-next from e es x l (inl q) = absurd (omega (arith, q, l))
bound-next from e es x l (inr b) = b

pub bound-first : (from : ℕ) (es : List ℕ) → IsBound from es from
bound-first from [] = refl
bound-first from (e ∷ es) = inl refl

-- a window is above the beginning of the first, and has two bounds
pub has-within : (from : ℕ) (es : List ℕ) (lo hi : ℕ) → Rising from es → has_window from es lo hi ≡ true → (from ≤ lo) × (lo < hi) × IsBound from es lo × IsBound from es hi
has-within from [] lo hi h e = cc
has-within from (x ∷ es) lo hi h e =
    elim (or_cases _ _ e) [
      | inl here ↦
          let p = and_parts (eqb from lo) (eqb x hi) here in
          let a : from ≡ lo = eqb-true from lo p.0 in
          let b : x ≡ hi = eqb-true x hi p.1 in
          (omega (arith, a), omega (arith, a, b, h.0), inl a, inr (last b))
      | inr later ↦
          let p = has-within x es lo hi h.1 later in
          (omega (arith, h.0, p.0), p.1, inr p.2, inr p.3)
    ]
  where
    last : x ≡ hi → IsBound x es hi
    last q = rw (← q) (bound-first x es)

-- no bound is inside a window
pub bound-apart : (from : ℕ) (es : List ℕ) (lo hi x : ℕ) → Rising from es → has_window from es lo hi ≡ true → IsBound from es x → (x ≤ lo) ⊎ (hi ≤ x)
bound-apart from [] lo hi x h e b = cc
bound-apart from (y ∷ es) lo hi x h e b =
    elim (or_cases _ _ e) [
      | inl here ↦
          let p = and_parts (eqb from lo) (eqb y hi) here in
          let q : from ≡ lo = eqb-true from lo p.0 in
          let r : y ≡ hi = eqb-true y hi p.1 in
          elim b [
            | inl first ↦ inl (omega (arith, q, first))
            | inr more ↦ inr (omega (arith, r, bound-le y es x h.1 more))
          ]
      | inr later ↦
          elim b [
            | inl first ↦ inl (omega (arith, first, h.0, (has-within y es lo hi h.1 later).0))
            | inr more ↦ bound-apart y es lo hi x h.1 later more
          ]
    ]

pub bound-append : (from : ℕ) (es : List ℕ) (hi x : ℕ) → IsBound from es x → IsBound from (es ++ hi ∷ []) x
bound-append from [] hi x b = inl b
bound-append from (e ∷ es) hi x (inl q) = inl q
bound-append from (e ∷ es) hi x (inr b) = inr (bound-append e es hi x b)
