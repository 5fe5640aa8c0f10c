-- Lemmas about fronts (lists of adjacent windows of sequences), proved by recursion over the list of windows. The
-- module `FrontLaws` restates the lemmas of `WindowLaws` for the type `FrontValue` instead of lists of windows.
use Rattle.std.proofs.Common.{◌≡◌, ◌⊎◌, inl, inr, ℕ, ◌+◌, ◌<◌, ◌≤◌, Bool, true, false, cond, ◌&&◌, ◌||◌, eqb, List, [], ◌∷◌, ◌++◌, map, refl, sym, ap, ◌∙◌, arith}
use Rattle.std.specs.List.{list_any, take_while}
use Rattle.std.proofs.Math.Bool.{or_assoc}
use Rattle.std.proofs.lemmas.Bool.{eqb-true, eq-eqb, both_ways, and_parts, and_from, or_cases, or_left, or_right, or_from, cond_both, cases_lt}
use Rattle.std.proofs.lemmas.List.Sums.{take_while-cons}
use Rattle.range_front.specs.Front.{FrontWindow, Span, spans_from, end_from, finished_from, above_low_water, run_count, Rises}

-- ---- windows from a bound

abbrev pub window_in : ℕ → List FrontWindow → ℕ → ℕ → Bool
window_in from ws lo hi = list_any (λ s. eqb s.lo lo && eqb s.hi hi) (spans_from from ws)

abbrev pub done_in : ℕ → List FrontWindow → ℕ → ℕ → Bool
done_in from ws lo hi = list_any (λ s. eqb s.lo lo && (eqb s.hi hi && s.done)) (spans_from from ws)

abbrev pub low_in : ℕ → List FrontWindow → ℕ
low_in from [] = from
low_in from (w ∷ ws) = cond w.done (low_in w.hi ws) from

pub low_in-is : (from : ℕ) (ws : List FrontWindow) → end_from from (take_while (λ (w : FrontWindow). w.done) ws) ≡ low_in from ws
low_in-is from [] = refl
low_in-is from (w ∷ ws) =
    ap (end_from from) (take_while-cons (λ (v : FrontWindow). v.done) w ws)
    ∙ elim w.done as (λ b. end_from from (cond b (w ∷ take_while (λ (v : FrontWindow). v.done) ws) []) ≡ cond b (low_in w.hi ws) from) [ true ↦ low_in-is w.hi ws | false ↦ refl ]

-- ---- tests of windows

window_here : (x y r : Bool) → x ≡ true → y ≡ true → ((x && y) || r) ≡ true
window_here x y r a b = or_left (x && y) r (and_from x y a b)

done_here : (x y d r : Bool) → x ≡ true → y ≡ true → d ≡ true → ((x && (y && d)) || r) ≡ true
done_here x y d r a b c = or_left (x && (y && d)) r (and_from x (y && d) a (and_from y d b c))

-- ---- positions of windows

pub from-le-end : (from : ℕ) (ws : List FrontWindow) → Rises from ws → from ≤ end_from from ws
from-le-end from [] h = omega arith
from-le-end from (w ∷ ws) h = omega (arith, h.0, from-le-end w.hi ws h.1)

pub window-within : (from : ℕ) (ws : List FrontWindow) (lo hi : ℕ) → Rises from ws → window_in from ws lo hi ≡ true → (from ≤ lo) × (lo < hi) × (hi ≤ end_from from ws)
window-within from [] lo hi h e = elim (both_ways false refl e) [ ]
window-within from (w ∷ ws) lo hi h e =
    elim (or_cases _ _ e) [
      | inl here ↦
          let p = and_parts _ _ here in
          let a : from ≡ lo = eqb-true from lo p.0 in
          let b : w.hi ≡ hi = eqb-true w.hi hi p.1 in
          (omega arith, omega (arith, h.0), omega (arith, from-le-end w.hi ws h.1))
      | inr later ↦
          let p = window-within w.hi ws lo hi h.1 later in
          (omega (arith, h.0, p.0), p.1, p.2)
    ]

pub window-bounds : (from : ℕ) (ws : List FrontWindow) (lo hi : ℕ) → window_in from ws lo hi ≡ list_any (λ (b : ℕ × ℕ). eqb b.0 lo && eqb b.1 hi) (map (λ (s : Span). (s.lo, s.hi)) (spans_from from ws))
window-bounds from [] lo hi = refl
window-bounds from (w ∷ ws) lo hi = ap (λ r. (eqb from lo && eqb w.hi hi) || r) (window-bounds w.hi ws lo hi)

pub done-window : (from : ℕ) (ws : List FrontWindow) (lo hi : ℕ) → done_in from ws lo hi ≡ true → window_in from ws lo hi ≡ true
done-window from [] lo hi e = e
done-window from (w ∷ ws) lo hi e =
    elim (or_cases (eqb from lo && (eqb w.hi hi && w.done)) _ e) [
      | inl here ↦ let p = and_parts (eqb from lo) _ here in window_here (eqb from lo) (eqb w.hi hi) _ p.0 (and_parts (eqb w.hi hi) _ p.1).0
      | inr later ↦ or_right (eqb from lo && eqb w.hi hi) _ (done-window w.hi ws lo hi later)
    ]

-- ---- the low water

pub from-le-low : (from : ℕ) (ws : List FrontWindow) → Rises from ws → from ≤ low_in from ws
from-le-low from [] h = omega arith
from-le-low from (w ∷ ws) h =
    cond_both w.done (low_in w.hi ws) from (λ n. from ≤ n) (λ e. omega (arith, h.0, from-le-low w.hi ws h.1)) (λ e. omega arith)

pub low-le-end : (from : ℕ) (ws : List FrontWindow) → Rises from ws → low_in from ws ≤ end_from from ws
low-le-end from [] h = omega arith
low-le-end from (w ∷ ws) h =
    cond_both w.done (low_in w.hi ws) from (λ n. n ≤ end_from w.hi ws) (λ e. low-le-end w.hi ws h.1) (λ e. omega (arith, h.0, from-le-end w.hi ws h.1))

-- The low water is the beginning of the first window, or the end of a done window.
pub low-is-end : (from : ℕ) (ws : List FrontWindow) → (low_in from ws ≡ from) ⊎ ((lo : ℕ) × (done_in from ws lo (low_in from ws) ≡ true))
low-is-end from [] = inl refl
low-is-end from (w ∷ ws) =
    cond_both w.done (low_in w.hi ws) from (λ n. (n ≡ from) ⊎ ((lo : ℕ) × (done_in from (w ∷ ws) lo n ≡ true)))
    (λ e. elim (low-is-end w.hi ws) [
      | inl first ↦ inr (from, done_here (eqb from from) (eqb w.hi (low_in w.hi ws)) w.done _ (eq-eqb from from refl) (eq-eqb _ _ (sym first)) e)
      | inr later ↦ inr (later.0, or_right (eqb from later.0 && (eqb w.hi (low_in w.hi ws) && w.done)) _ later.1)
    ])
    (λ e. inl refl)

-- Each sequence that is above the start of the windows, and not above their low water, is in a done window.
pub reached-in : (from : ℕ) (ws : List FrontWindow) (q : ℕ) → Rises from ws → from < q → q ≤ low_in from ws → (lo : ℕ) × (hi : ℕ) × (lo < q) × (q ≤ hi) × (done_in from ws lo hi ≡ true)
reached-in from [] q h a l = absurd (omega arith)
reached-in from (w ∷ ws) q h a l =
    let P : Bool → Type 0 = λ b. w.done ≡ b → q ≤ cond b (low_in w.hi ws) from → (lo : ℕ) × (hi : ℕ) × (lo < q) × (q ≤ hi) × (done_in from (w ∷ ws) lo hi ≡ true) in
    let reached : P true =
    λ d m. elim (cases_lt w.hi q) [
      | inl above ↦
          let r = reached-in w.hi ws q h.1 above m in
          (r.0, r.1, r.2, r.3, or_right (eqb from r.0 && (eqb w.hi r.1 && w.done)) _ r.4)
      | inr here ↦ (from, w.hi, a, here, done_here (eqb from from) (eqb w.hi w.hi) w.done _ (eq-eqb from from refl) (eq-eqb w.hi w.hi refl) d)
    ] in
    let not_reached : P false = λ d m. absurd (omega (arith, a, m)) in
    elim w.done as P [ true ↦ reached | false ↦ not_reached ] refl l

-- ---- runs of done windows

pub run_count-done : (before : Bool) (w : FrontWindow) (ws : List FrontWindow) → w.done ≡ true → run_count before (w ∷ ws) ≡ cond before 0 1 + run_count true ws
run_count-done before w ws e = ap (λ b. cond b (cond before 0 1) 0 + run_count b ws) e

pub run_count-open : (before : Bool) (w : FrontWindow) (ws : List FrontWindow) → w.done ≡ false → run_count before (w ∷ ws) ≡ 0 + run_count false ws
run_count-open before w ws e = ap (λ b. cond b (cond before 0 1) 0 + run_count b ws) e

pub run_count-above : (ws : List FrontWindow) → run_count false (above_low_water ws) ≡ run_count true ws
run_count-above [] = refl
run_count-above (w ∷ ws) =
    let P : Bool → Type 0 = λ b. w.done ≡ b → run_count false (cond b (above_low_water ws) (w ∷ ws)) ≡ run_count true (w ∷ ws) in
    elim w.done as P [
      | true ↦ λ d. omega (arith, run_count-above ws, run_count-done true w ws d)
      | false ↦ λ d. omega (arith, run_count-open false w ws d, run_count-open true w ws d)
    ] refl

-- ---- one more window

pub end-append : (from : ℕ) (ws : List FrontWindow) (w : FrontWindow) → end_from from (ws ++ w ∷ []) ≡ w.hi
end-append from [] w = refl
end-append from (v ∷ ws) w = end-append v.hi ws w

pub Rises-append : (from : ℕ) (ws : List FrontWindow) (w : FrontWindow) → Rises from ws → end_from from ws < w.hi → Rises from (ws ++ w ∷ [])
Rises-append from [] w h l = (l, tt)
Rises-append from (v ∷ ws) w h l = (h.0, Rises-append v.hi ws w h.1 l)

pub spans-append : (from : ℕ) (ws : List FrontWindow) (w : FrontWindow) → spans_from from (ws ++ w ∷ []) ≡ spans_from from ws ++ record { lo = end_from from ws; hi = w.hi; done = w.done } ∷ []
spans-append from [] w = refl
spans-append from (v ∷ ws) w = ap (λ ss. record { lo = from; hi = v.hi; done = v.done } ∷ ss) (spans-append v.hi ws w)

pub low-append : (from : ℕ) (ws : List FrontWindow) (hi : ℕ) → low_in from (ws ++ record { hi = hi; done = false } ∷ []) ≡ low_in from ws
low-append from [] hi = refl
low-append from (w ∷ ws) hi = ap (λ n. cond w.done n from) (low-append w.hi ws hi)

pub done-append : (from : ℕ) (ws : List FrontWindow) (hi a b : ℕ) → done_in from (ws ++ record { hi = hi; done = false } ∷ []) a b ≡ done_in from ws a b
done-append from [] hi a b = or_from _ _ (never (eqb from a) (eqb hi b)) refl
  where
    never : (x y : Bool) → (x && (y && false)) ≡ false
    never true true = refl
    never true false = refl
    never false y = refl
done-append from (w ∷ ws) hi a b = ap (λ r. (eqb from a && (eqb w.hi b && w.done)) || r) (done-append w.hi ws hi a b)

-- ---- a finished window

-- Finishing a window does not change the sequence at which the front's windows end.
pub end-finished : (from : ℕ) (ws : List FrontWindow) (lo hi : ℕ) → end_from from (finished_from from ws lo hi) ≡ end_from from ws
end-finished from [] lo hi = refl
end-finished from (w ∷ ws) lo hi =
    cond_both (eqb from lo && eqb w.hi hi) (record w { done = true }) w (λ v. end_from v.hi (finished_from w.hi ws lo hi) ≡ end_from w.hi ws) (λ e. end-finished w.hi ws lo hi) (λ e. end-finished w.hi ws lo hi)

pub Rises-finished : (from : ℕ) (ws : List FrontWindow) (lo hi : ℕ) → Rises from ws → Rises from (finished_from from ws lo hi)
Rises-finished from [] lo hi h = tt
Rises-finished from (w ∷ ws) lo hi h =
    cond_both (eqb from lo && eqb w.hi hi) (record w { done = true }) w (λ v. Rises from (v ∷ finished_from w.hi ws lo hi)) (λ e. (h.0, Rises-finished w.hi ws lo hi h.1)) (λ e. (h.0, Rises-finished w.hi ws lo hi h.1))

abbrev pub bounds_from : ℕ → List FrontWindow → List (ℕ × ℕ)
bounds_from from ws = map (λ (s : Span). (s.lo, s.hi)) (spans_from from ws)

pub bounds-finished_from : (from : ℕ) (ws : List FrontWindow) (lo hi : ℕ) → bounds_from from (finished_from from ws lo hi) ≡ bounds_from from ws
bounds-finished_from from [] lo hi = refl
bounds-finished_from from (w ∷ ws) lo hi =
    cond_both (eqb from lo && eqb w.hi hi) (record w { done = true }) w (λ v. bounds_from from (v ∷ finished_from w.hi ws lo hi) ≡ (from, w.hi) ∷ bounds_from w.hi ws)
    (λ e. ap (λ bs. (from, w.hi) ∷ bs) (bounds-finished_from w.hi ws lo hi))
    (λ e. ap (λ bs. (from, w.hi) ∷ bs) (bounds-finished_from w.hi ws lo hi))

-- After a call of `finish`, the done windows are the windows that were done before, and the window that the call
-- finished.
pub done-finished_from : (from : ℕ) (ws : List FrontWindow) (lo hi a b : ℕ) → done_in from (finished_from from ws lo hi) a b ≡ (done_in from ws a b || (window_in from ws lo hi && (eqb lo a && eqb hi b)))
done-finished_from from [] lo hi a b = refl
done-finished_from from (w ∷ ws) lo hi a b =
    cond_both (eqb from lo && eqb w.hi hi) (record w { done = true }) w
    (λ v. ((eqb from a && (eqb v.hi b && v.done)) || done_in v.hi (finished_from w.hi ws lo hi) a b) ≡ (((eqb from a && (eqb w.hi b && w.done)) || done_in w.hi ws a b) || (window_in from (w ∷ ws) lo hi && (eqb lo a && eqb hi b))))
    (λ e.
    let p = and_parts _ _ e in
    let s : eqb from a ≡ eqb lo a = ap (λ n. eqb n a) (eqb-true from lo p.0) in
    let t : eqb w.hi b ≡ eqb hi b = ap (λ n. eqb n b) (eqb-true w.hi hi p.1) in
    ap (λ r. (eqb from a && (eqb w.hi b && true)) || r) (done-finished_from w.hi ws lo hi a b)
    ∙ now (eqb from a) (eqb w.hi b) w.done (done_in w.hi ws a b) (window_in w.hi ws lo hi) (eqb from lo && eqb w.hi hi) (eqb lo a) (eqb hi b) e s t)
    (λ e.
    ap (λ r. (eqb from a && (eqb w.hi b && w.done)) || r) (done-finished_from w.hi ws lo hi a b)
    ∙ sym (or_assoc (eqb from a && (eqb w.hi b && w.done)) (done_in w.hi ws a b) (window_in w.hi ws lo hi && (eqb lo a && eqb hi b)))
    ∙ ap (λ m. ((eqb from a && (eqb w.hi b && w.done)) || done_in w.hi ws a b) || ((m || window_in w.hi ws lo hi) && (eqb lo a && eqb hi b))) (sym e))
  where
    same : (x y d r i : Bool) → ((x && (y && true)) || (r || (i && (x && y)))) ≡ (((x && (y && d)) || r) || (x && y))
    same true true d r i = sym (last_true ((true && (true && d)) || r))
      where
        last_true : (z : Bool) → (z || true) ≡ true
        last_true true = refl
        last_true false = refl
    same true false d true i = refl
    same true false d false true = refl
    same true false d false false = refl
    same false y d true i = refl
    same false y d false true = refl
    same false y d false false = refl

    now : (x y d r i m x' y' : Bool) → m ≡ true → x ≡ x' → y ≡ y' → ((x && (y && true)) || (r || (i && (x' && y')))) ≡ (((x && (y && d)) || r) || ((m || i) && (x' && y')))
    now x y d r i m x' y' e s t =
        rw (e, ← s, ← t) (same x y d r i)

-- Finishing a window does not lower the low water.
pub low-finished : (from : ℕ) (ws : List FrontWindow) (lo hi : ℕ) → Rises from ws → low_in from ws ≤ low_in from (finished_from from ws lo hi)
low-finished from [] lo hi h = omega arith
low-finished from (w ∷ ws) lo hi h =
    let ih : low_in w.hi ws ≤ low_in w.hi (finished_from w.hi ws lo hi) = low-finished w.hi ws lo hi h.1 in
    let more : w.hi ≤ low_in w.hi ws = from-le-low w.hi ws h.1 in
    cond_both (eqb from lo && eqb w.hi hi) (record w { done = true }) w (λ v. cond w.done (low_in w.hi ws) from ≤ low_in from (v ∷ finished_from w.hi ws lo hi))
    (λ e. cond_both w.done (low_in w.hi ws) from (λ n. n ≤ low_in w.hi (finished_from w.hi ws lo hi)) (λ d. ih) (λ d. omega (arith, h.0, more, ih)))
    (λ e. elim w.done as (λ b. cond b (low_in w.hi ws) from ≤ cond b (low_in w.hi (finished_from w.hi ws lo hi)) from) [ true ↦ ih | false ↦ omega arith ])
