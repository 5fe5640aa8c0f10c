-- Finding one of adjacent windows.
use Rattle.proof_prelude.proofs.{◌≡◌, ℕ, ◌<◌, ◌≤◌, ◌==◌, Bool, false, ◌&&◌, List, [], ◌∷◌, length, get_or, Some, None, slice_get, zero, suc, refl, ap, ◌∙◌, subst, arith, cond-true, cond-false, and_left, and_from, slice_get_within, get_or_from_slice_get, IsPartitionPoint, eq-eqb, ne_eqb, find}
use Rattle.couch_base.specs.{none_some, some_is, WindowValue}
use Rattle.repl_peer.specs.{Consecutive, IsWindowAt}

abbrev is_at : ℕ → ℕ → WindowValue → Bool
is_at lo hi w = (w.lo == lo) && (w.hi == hi)

other : (lo hi : ℕ) (w : WindowValue) → (w.lo ≡ lo → ⊥) → is_at lo hi w ≡ false
other lo hi w apart = and_left (w.lo == lo) (w.hi == hi) (ne_eqb w.lo lo apart)

-- no window above a bound begins at it
none_above : (start : ℕ) (ws : List WindowValue) → Consecutive start ws → (lo hi : ℕ) → lo < start → find (is_at lo hi) ws ≡ None
none_above start [] law lo hi below = refl
none_above start (w ∷ ws) law lo hi below =
    let at : w.lo ≡ start = law.0 in
    let more : start < w.hi = law.1 in
    cond-false (is_at lo hi w) (Some w) (find (is_at lo hi) ws) (other lo hi w (λ e. omega (arith, at, e, below)))
    ∙ none_above w.hi ws law.2 lo hi (omega (arith, more, below))

-- the windows before an index begin below a bound
abbrev pub AllBelow : ℕ → List WindowValue → ℕ → Type 0
AllBelow lo ws k = (i : ℕ) (w : WindowValue) → i < k → slice_get ws i ≡ Some w → w.lo < lo

pub find_at : (start : ℕ) (ws : List WindowValue) (lo hi k : ℕ) (w : WindowValue) → AllBelow lo ws k → slice_get ws k ≡ Some w → w.lo ≡ lo → w.hi ≡ hi → find (is_at lo hi) ws ≡ Some w
find_at start [] lo hi k w below at a b = absurd (none_some w at)
find_at start (x ∷ ws) lo hi zero w below at a b =
    let same : x ≡ w = some_is x w at in
    cond-true (is_at lo hi x) (Some x) (find (is_at lo hi) ws) (and_from (x.lo == lo) (x.hi == hi) (eq-eqb x.lo lo (ap (λ (y : WindowValue). y.lo) same ∙ a)) (eq-eqb x.hi hi (ap (λ (y : WindowValue). y.hi) same ∙ b)))
    ∙ ap (λ y. Some y) same
find_at start (x ∷ ws) lo hi (suc k) w below at a b =
    let under : x.lo < lo = below 0 x (omega arith) refl in
    cond-false (is_at lo hi x) (Some x) (find (is_at lo hi) ws) (other lo hi x (λ e. omega (arith, under, e)))
    ∙ find_at start ws lo hi k w (λ i y h g. below (suc i) y (omega (arith, h)) g) at a b

pub find_no : (start : ℕ) (ws : List WindowValue) (lo hi k : ℕ) → Consecutive start ws → AllBelow lo ws k
    → ((w : WindowValue) → slice_get ws k ≡ Some w → (lo ≤ w.lo) × (is_at lo hi w ≡ false)) → find (is_at lo hi) ws ≡ None
find_no start [] lo hi k law below here = refl
find_no start (x ∷ ws) lo hi zero law below here =
    let at : x.lo ≡ start = law.0 in
    let more : start < x.hi = law.1 in
    let above : lo ≤ x.lo = (here x refl).0 in
    cond-false (is_at lo hi x) (Some x) (find (is_at lo hi) ws) (here x refl).1
    ∙ none_above x.hi ws law.2 lo hi (omega (arith, at, more, above))
find_no start (x ∷ ws) lo hi (suc k) law below here =
    let under : x.lo < lo = below 0 x (omega arith) refl in
    cond-false (is_at lo hi x) (Some x) (find (is_at lo hi) ws) (other lo hi x (λ e. omega (arith, under, e)))
    ∙ find_no x.hi ws lo hi k law.2 (λ i y h g. below (suc i) y (omega (arith, h)) g) here

-- ---- by index

from-le : (start : ℕ) (ws : List WindowValue) (j : ℕ) (d : WindowValue) → Consecutive start ws → j < length ws → start ≤ (get_or ws j d).lo
from-le start [] j d law h = absurd (omega (arith, h))
from-le start (w ∷ ws) zero d law h = let at : w.lo ≡ start = law.0 in omega (arith, at)
from-le start (w ∷ ws) (suc j) d law h =
    let more : start < w.hi = law.1 in
    let later : w.hi ≤ (get_or ws j d).lo = from-le w.hi ws j d law.2 (omega (arith, h)) in
    omega (arith, more, later)

pub rises : (start : ℕ) (ws : List WindowValue) (i j : ℕ) (d : WindowValue) → Consecutive start ws → i ≤ j → j < length ws → (get_or ws i d).lo ≤ (get_or ws j d).lo
rises start [] i j d law le h = absurd (omega (arith, h))
rises start (w ∷ ws) zero zero d law le h = omega arith
rises start (w ∷ ws) zero (suc j) d law le h =
    let at : w.lo ≡ start = law.0 in
    let later : start ≤ (get_or (w ∷ ws) (suc j) d).lo = from-le start (w ∷ ws) (suc j) d law h in
    omega (arith, at, later)
rises start (w ∷ ws) (suc i) zero d law le h = absurd (omega (arith, le))
rises start (w ∷ ws) (suc i) (suc j) d law le h = rises w.hi ws i j d law.2 (omega (arith, le)) (omega (arith, h))

below_from : (ws : List WindowValue) (lo k : ℕ) → IsPartitionPoint (λ (w : WindowValue). w.lo < lo) (λ (w : WindowValue). lo ≤ w.lo) ws k → AllBelow lo ws k
below_from ws lo k point i w h g = subst (λ (y : WindowValue). y.lo < lo) (get_or_from_slice_get ws i w w g) (point.0 i w (omega arith) h)

pub window_at : (start : ℕ) (ws : List WindowValue) (lo hi k : ℕ) (w : WindowValue) → IsPartitionPoint (λ (w : WindowValue). w.lo < lo) (λ (w : WindowValue). lo ≤ w.lo) ws k
    → slice_get ws k ≡ Some w → w.lo ≡ lo → w.hi ≡ hi → IsWindowAt ws lo hi k
window_at start ws lo hi k w point at a b = record { window = w; at = at; first = find_at start ws lo hi k w (below_from ws lo k point) at a b }

pub no_window : (start : ℕ) (ws : List WindowValue) (lo hi k : ℕ) → Consecutive start ws → IsPartitionPoint (λ (w : WindowValue). w.lo < lo) (λ (w : WindowValue). lo ≤ w.lo) ws k
    → ((w : WindowValue) → slice_get ws k ≡ Some w → ((w.lo == lo) && (w.hi == hi)) ≡ false) → find (λ w. (w.lo == lo) && (w.hi == hi)) ws ≡ None
no_window start ws lo hi k law point apart =
    find_no start ws lo hi k law (below_from ws lo k point)
    (λ w at. (subst (λ (y : WindowValue). lo ≤ y.lo) (get_or_from_slice_get ws k w w at) (point.1 k w (omega arith) (slice_get_within ws k w at)), apart w at))
