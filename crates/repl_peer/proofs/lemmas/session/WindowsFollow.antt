-- The windows of a session are adjacent.
use Rattle.proof_prelude.proofs.{◌≡◌, ℕ, ◌<◌, ◌≤◌, List, [], ◌∷◌, true, sym, ap, ◌∙◌, subst, inl, inr, arith, eqb, ◌&&◌, and_parts, eqb-true}
use Rattle.couch_base.specs.{Among, WindowValue, Among-map, any_member}
use Rattle.range_front.specs.{FrontValue, FrontWindow, Rises, IsFront, bounds, is_window, bounds_from, is_window-bounds}
use Rattle.repl_peer.specs.{window_bounds, Consecutive}

consecutive_from : (lo : ℕ) (fs : List FrontWindow) (ws : List WindowValue) → window_bounds ws ≡ bounds_from lo fs → Rises lo fs → Consecutive lo ws
consecutive_from lo [] [] e r = tt
consecutive_from lo [] (w ∷ ws) e r = cc
consecutive_from lo (f ∷ fs) [] e r = cc
consecutive_from lo (f ∷ fs) (w ∷ ws) e r =
    let first : ◌≡◌ {A = ℕ × ℕ} (w.lo, w.hi) (lo, f.hi) = cc in
    let others : window_bounds ws ≡ bounds_from f.hi fs = cc in
    let from : w.lo ≡ lo = ap (λ (b : ℕ × ℕ). b.0) first in
    let to : w.hi ≡ f.hi = ap (λ (b : ℕ × ℕ). b.1) first in
    (from, omega (arith, to, r.0), subst (λ n. Consecutive n ws) (sym to) (consecutive_from f.hi fs ws others r.1))

pub windows-consecutive : (f : FrontValue) (ws : List WindowValue) → window_bounds ws ≡ bounds f → IsFront f → Consecutive f.start ws
windows-consecutive f ws e front = consecutive_from f.start f.windows ws e front.rises

-- a window is at or above the beginning of the first, and is not empty
pub window-above : (lo : ℕ) (ws : List WindowValue) (x : WindowValue) → Consecutive lo ws → Among x ws → (lo ≤ x.lo) × (x.lo < x.hi)
window-above lo [] x c m = absurd m
window-above lo (w ∷ ws) x c (inl e) =
    let from : x.lo ≡ w.lo = ap (λ (v : WindowValue). v.lo) e in
    let to : x.hi ≡ w.hi = ap (λ (v : WindowValue). v.hi) e in
    (omega (arith, from, c.0), omega (arith, from, to, c.0, c.1))
window-above lo (w ∷ ws) x c (inr m) = let k = window-above w.hi ws x c.2 m in (omega (arith, k.0, c.1), k.1)

-- two windows that contain the same sequence are equal
pub one_window : (lo : ℕ) (ws : List WindowValue) (x y : WindowValue) (q : ℕ) → Consecutive lo ws → Among x ws → Among y ws → x.lo < q → q ≤ x.hi → y.lo < q → q ≤ y.hi → x ≡ y
one_window lo [] x y q c m n a b d e = absurd m
one_window lo (w ∷ ws) x y q c (inl i) (inl j) a b d e = i ∙ sym j
one_window lo (w ∷ ws) x y q c (inl i) (inr n) a b d e =
    let to : x.hi ≡ w.hi = ap (λ (v : WindowValue). v.hi) i in
    absurd (omega (arith, to, (window-above w.hi ws y c.2 n).0, b, d))
one_window lo (w ∷ ws) x y q c (inr m) (inl j) a b d e =
    let to : y.hi ≡ w.hi = ap (λ (v : WindowValue). v.hi) j in
    absurd (omega (arith, to, (window-above w.hi ws x c.2 m).0, a, e))
one_window lo (w ∷ ws) x y q c (inr m) (inr n) a b d e = one_window w.hi ws x y q c.2 m n a b d e

-- a window of the front is stored
pub window-stored : (f : FrontValue) (ws : List WindowValue) (lo hi : ℕ) → window_bounds ws ≡ bounds f → is_window f lo hi ≡ true → (w : WindowValue) × Among w ws × (w.lo ≡ lo) × (w.hi ≡ hi)
window-stored f ws lo hi e window =
    let b = any_member (λ (b : ℕ × ℕ). eqb b.0 lo && eqb b.1 hi) (bounds f) (sym (is_window-bounds f lo hi) ∙ window) in
    let w = Among-map (λ (w : WindowValue). (w.lo, w.hi)) b.0 ws (subst (Among b.0) (sym e) b.1) in
    let both = and_parts _ _ b.2 in
    (w.0, w.1, ap (λ (x : ℕ × ℕ). x.0) (sym w.2) ∙ eqb-true _ _ both.0, ap (λ (x : ℕ × ℕ). x.1) (sym w.2) ∙ eqb-true _ _ both.1)
