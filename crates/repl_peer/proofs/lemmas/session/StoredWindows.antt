-- Stored windows: which of them are complete, and what dropping leaves keeps.
use Rattle.proof_prelude.proofs.{◌≡◌, ℕ, ◌<◌, Bool, true, false, List, [], ◌∷◌, ◌++◌, length, set, get_or, Some, Ok, is_ok, inl, inr, zero, suc, slice_get, ◌≤◌, refl, sym, ap, ◌∙◌, subst, arith, false≢true, or_left, or_right, and_from, length-map, get_or-map, slice_get-map, slice_get_within, option_map, IsPartitionPoint, eq-eqb}
use Rattle.couch_base.specs.{Among-push, none_some, some_is, WindowValue}
use Rattle.range_front.specs.{FrontValue, is_window, is_done, appended, finished, finish_answer, is_done-appended, is_done-finished, finish_answer-no_window, finish_answer-done}
use Rattle.repl_peer.specs.{StoredWindowValue, windows_of, IsThinnedWhereDone, IsThinner, Consecutive, IsWindowAt}
use Rattle.repl_peer.proofs.lemmas.Members.{Among-at}
use Rattle.repl_peer.proofs.lemmas.session.WindowsFound.{rises}
use Rattle.repl_peer.proofs.lemmas.session.SettlingChecks.{Found, found}

-- ---- the window at an index

pub record StoredAt (vs : List StoredWindowValue) (place : ℕ) (w : WindowValue) (v : StoredWindowValue) : Type 0 where
  pub at : slice_get vs place ≡ Some v
  pub window : v.window ≡ w

pub stored_at : (vs : List StoredWindowValue) (place : ℕ) (w : WindowValue) (v : StoredWindowValue) → slice_get (windows_of vs) place ≡ Some w → v ≡ get_or vs place v → StoredAt vs place w v
stored_at [] place w v at is = absurd (none_some w at)
stored_at (x ∷ vs) zero w v at is = record { at = ap (λ y. Some y) (sym is); window = ap (λ (y : StoredWindowValue). y.window) is ∙ some_is x.window w at }
stored_at (x ∷ vs) (suc place) w v at is = let k = stored_at vs place w v at is in record { at = k.at; window = k.window }

pub at_place : (vs : List StoredWindowValue) (place : ℕ) (v : StoredWindowValue) → place < length vs → v ≡ get_or vs place v → slice_get vs place ≡ Some v
at_place [] place v h is = absurd (omega (arith, h))
at_place (x ∷ vs) zero v h is = ap (λ y. Some y) (sym is)
at_place (x ∷ vs) (suc place) v h is = at_place vs place v (omega (arith, h)) is

-- the same window, with its stored form
pub window_at_place : (vs : List StoredWindowValue) (place : ℕ) (v : StoredWindowValue) → slice_get vs place ≡ Some v → slice_get (windows_of vs) place ≡ Some v.window
window_at_place vs place v at = slice_get-map (λ (x : StoredWindowValue). x.window) vs place ∙ ap (option_map (λ (x : StoredWindowValue). x.window)) at

pub window_read : (vs : List StoredWindowValue) (place : ℕ) (v : StoredWindowValue) → v ≡ get_or vs place v → v.window ≡ get_or (windows_of vs) place v.window
window_read [] place v is = refl
window_read (x ∷ vs) zero v is = ap (λ (y : StoredWindowValue). y.window) is
window_read (x ∷ vs) (suc place) v is = window_read vs place v is

pub within_stored : (vs : List StoredWindowValue) (place : ℕ) (w : WindowValue) → slice_get (windows_of vs) place ≡ Some w → place < length vs
within_stored vs place w at = let there = slice_get_within (windows_of vs) place w at in omega (arith, there, length-map vs (λ (v : StoredWindowValue). v.window))

told : (b : Bool) → (b ≡ false → false ≡ true) → b ≡ true
told true so = refl
told false so = so refl

-- a window that is not done is complete
pub whole_at : (f : FrontValue) (vs : List StoredWindowValue) (place : ℕ) (w : WindowValue) (v : StoredWindowValue) → IsThinnedWhereDone f vs → slice_get (windows_of vs) place ≡ Some w → v ≡ get_or vs place v → is_done f w.lo w.hi ≡ false → v.whole ≡ true
whole_at f vs place w v thinned at is remains =
    let here = stored_at vs place w v at is in
    told v.whole (λ e. sym remains ∙ subst (λ (x : WindowValue). is_done f x.lo x.hi ≡ true) here.window (thinned v (Among-at vs place v here.at) e))

-- ---- the window with given bounds

pub found_stored : (vs read : List StoredWindowValue) (lo hi low high place : ℕ) (v : StoredWindowValue) → read ≡ vs → lo ≡ low → hi ≡ high → IsWindowAt (windows_of read) lo hi place → v ≡ get_or vs place v → Found (windows_of vs) low high place v.window
found_stored vs read lo hi low high place v same a b h is = found (windows_of vs) (windows_of read) lo hi low high place v.window (ap windows_of same) a b h (window_read vs place v is)

within : (vs : List StoredWindowValue) (k : ℕ) → k < length vs → k < length (windows_of vs)
within vs k h = let same = length-map vs (λ (v : StoredWindowValue). v.window) in omega (arith, same, h)

pub rises_stored : (start : ℕ) (vs : List StoredWindowValue) (i j : ℕ) (d : StoredWindowValue) → Consecutive start (windows_of vs) → i ≤ j → j < length vs → (get_or vs i d).window.lo ≤ (get_or vs j d).window.lo
rises_stored start vs i j d law le h =
    let of = λ (v : StoredWindowValue). v.window in
    let first = get_or-map of vs i d d.window (omega (arith, le, h)) in
    let last = get_or-map of vs j d d.window h in
    subst (λ (w : WindowValue). w.lo ≤ (get_or vs j d).window.lo) first (subst (λ (w : WindowValue). (get_or (windows_of vs) i d.window).lo ≤ w.lo) last (rises start (windows_of vs) i j d.window law le (within vs j h)))

pub point_stored : (vs : List StoredWindowValue) (lo place : ℕ) → place ≤ length vs → IsPartitionPoint (λ (v : StoredWindowValue). v.window.lo < lo) (λ (v : StoredWindowValue). lo ≤ v.window.lo) vs place
    → IsPartitionPoint (λ (w : WindowValue). w.lo < lo) (λ (w : WindowValue). lo ≤ w.lo) (windows_of vs) place
point_stored vs lo place bound point =
    let of = λ (v : StoredWindowValue). v.window in
    let whole : WindowValue → StoredWindowValue = λ w. record { window = w; whole = true } in
    let same = length-map vs of in (
      (λ k d low h. subst (λ (w : WindowValue). w.lo < lo) (sym (get_or-map of vs k (whole d) d (omega (arith, bound, h)))) (point.0 k (whole d) low h)),
      (λ k d low h. let far = h in subst (λ (w : WindowValue). lo ≤ w.lo) (sym (get_or-map of vs k (whole d) d (omega (arith, same, far)))) (point.1 k (whole d) low (omega (arith, same, far)))),
    )

-- ---- a new window

pub thinned_grown : (f : FrontValue) (vs : List StoredWindowValue) (w : WindowValue) (hi : ℕ) → IsThinnedWhereDone f vs → IsThinnedWhereDone (appended f hi) (vs ++ record { window = w; whole = true } ∷ [])
thinned_grown f vs w hi thinned v m e =
    elim (Among-push v vs (record { window = w; whole = true }) m) [
      | inl there ↦ is_done-appended f hi v.window.lo v.window.hi ∙ thinned v there e
      | inr same ↦ absurd (false≢true (sym e ∙ ap (λ (x : StoredWindowValue). x.whole) same))
    ]

-- ---- dropping the leaves of a window

pub windows_kept : (vs : List StoredWindowValue) (place : ℕ) (v n : StoredWindowValue) → slice_get vs place ≡ Some v → n.window ≡ v.window → windows_of (set vs place n) ≡ windows_of vs
windows_kept [] place v n at same = absurd (none_some v at)
windows_kept (x ∷ vs) zero v n at same = ap (λ (w : WindowValue). w ∷ windows_of vs) (same ∙ ap (λ (y : StoredWindowValue). y.window) (sym (some_is x v at)))
windows_kept (x ∷ vs) (suc place) v n at same = ap (λ (ws : List WindowValue). x.window ∷ ws) (windows_kept vs place v n at same)

pub is_thinner : (vs : List StoredWindowValue) (place : ℕ) (v n : StoredWindowValue) → slice_get vs place ≡ Some v → n.window ≡ v.window → IsThinner place vs (set vs place n)
is_thinner [] place v n at same x m e = absurd (none_some v at)
is_thinner (y ∷ vs) zero v n at same x (inl is) e = inr (ap (λ w. Some w) (ap (λ (z : StoredWindowValue). z.window) (some_is y v at) ∙ sym same ∙ ap (λ (z : StoredWindowValue). z.window) (sym is)))
is_thinner (y ∷ vs) zero v n at same x (inr m) e = inl (inr m)
is_thinner (y ∷ vs) (suc place) v n at same x (inl is) e = inl (inl is)
is_thinner (y ∷ vs) (suc place) v n at same x (inr m) e =
    elim (is_thinner vs place v n at same x m e) [
      | inl there ↦ inl (inr there)
      | inr here ↦ inr here
    ]

-- a marked window is one of the front
marks_window : (f : FrontValue) (lo hi : ℕ) (b : Bool) → is_window f lo hi ≡ b → finish_answer f lo hi ≡ Ok tt → b ≡ true
marks_window f lo hi true is ok = refl
marks_window f lo hi false is ok = absurd (false≢true (ap is_ok (sym (finish_answer-no_window f lo hi is) ∙ ok)))

pub remains_of : (f : FrontValue) (lo hi : ℕ) (b : Bool) → is_done f lo hi ≡ b → finish_answer f lo hi ≡ Ok tt → b ≡ false
remains_of f lo hi false is ok = refl
remains_of f lo hi true is ok = absurd (false≢true (ap is_ok (sym (finish_answer-done f lo hi is) ∙ ok)))

-- a marked window may be stored without leaves
pub thinned_marked : (f : FrontValue) (old new : List StoredWindowValue) (place : ℕ) (w : WindowValue) → IsThinnedWhereDone f old → slice_get (windows_of old) place ≡ Some w → finish_answer f w.lo w.hi ≡ Ok tt → IsThinner place old new
    → IsThinnedWhereDone (finished f w.lo w.hi) new
thinned_marked f old new place w thinned at ok thinner v m e =
    is_done-finished f w.lo w.hi v.window.lo v.window.hi
    ∙ elim (thinner v m e) [
      | inl there ↦ or_left (is_done f v.window.lo v.window.hi) _ (thinned v there e)
      | inr here ↦
          (let same : w ≡ v.window = some_is w v.window (sym at ∙ here) in
          or_right (is_done f v.window.lo v.window.hi) _ (and_from _ _ (marks_window f w.lo w.hi (is_window f w.lo w.hi) refl ok) (and_from _ _ (eq-eqb w.lo v.window.lo (ap (λ (x : WindowValue). x.lo) same)) (eq-eqb w.hi v.window.hi (ap (λ (x : WindowValue). x.hi) same)))))
    ]
