-- The front of ends, a mark and ranges: its derived values, and the effect of each change.
use Rattle.proof_prelude.proofs.{◌≡◌, inl, inr, ℕ, suc, ◌<◌, ◌≤◌, ◌^◌, Bool, true, false, ◌&&◌, ◌||◌, eqb, List, [], ◌∷◌, ◌++◌, length, slice_get, Some, Ok, Err, ◌-◌, refl, sym, ap, ◌∙◌, subst, arith, and_parts, and_left, and_right, and_from, or_cases, cond-true, cond-false, lt-leb, map_push, eqb-true, ne_eqb}
use Rattle.range_front.specs.{DoneRange, FrontWindow, end_from, end_of, appended, finished, finished_from, finish_answer, is_done, is_window, low_water, range_count, run_count, Rises, IsFront, Rising, has_window, IsBound, Apart, AtBounds, covers, joined, marked, front_of, IsKept, window_in, done_in, low_in, low_in-is, run_count-done, run_count-open, run_count-above, IsFront-appended, IsFront-finished, finish_answer-no_window, finish_answer-done, finish_answer-ok}
use Rattle.range_front.specs.declared.fault.FrontFault.TheVariants as faults
use Rattle.range_front.proofs.RisingEnds.{bound-first, bound-le, bound-next, bound-append, has-within}
use Rattle.range_front.proofs.Cover.{AllUnder, cover-low, cover-high, cover-under, cover-above}
use Rattle.range_front.proofs.Joins.{Grown, clear-from, Joins, joins}

-- ---- windows with any marks

pub rising-marked : (from : ℕ) (es : List ℕ) (c : ℕ → Bool) → Rises from (marked c es) → Rising from es
rising-marked from [] c h = tt
rising-marked from (e ∷ es) c h = (h.0, rising-marked e es c h.1)

pub window-marked : (from : ℕ) (es : List ℕ) (c : ℕ → Bool) (lo hi : ℕ) → window_in from (marked c es) lo hi ≡ has_window from es lo hi
window-marked from [] c lo hi = refl
window-marked from (e ∷ es) c lo hi = ap (λ r. (eqb from lo && eqb e hi) || r) (window-marked e es c lo hi)

-- the last end is the end of the windows
pub end-last : (from : ℕ) (es : List ℕ) (c : ℕ → Bool) (e : ℕ) → Some e ≡ slice_get es (length es - 1) → e ≡ end_from from (marked c es)
end-last from [] c e q = cc
end-last from (x ∷ []) c e q = cc
end-last from (x ∷ (y ∷ es)) c e q =
    let next : length (x ∷ (y ∷ es)) - 1 ≡ suc (length (y ∷ es) - 1) = omega arith in
    end-last x (y ∷ es) c e (q ∙ ap (slice_get (x ∷ (y ∷ es))) next)

-- a window is done exactly if its upper bound is covered
pub done-marked : (from : ℕ) (es : List ℕ) (c : ℕ → Bool) (lo hi : ℕ) → done_in from (marked c es) lo hi ≡ (has_window from es lo hi && c hi)
done-marked from [] c lo hi = refl
done-marked from (e ∷ es) c lo hi =
    ap (λ r. (eqb from lo && (eqb e hi && c e)) || r) (done-marked e es c lo hi)
    ∙ here (eqb from lo) (eqb e hi) (c e) (c hi) (has_window e es lo hi) (λ q. ap c (eqb-true e hi q))
  where
    here : (x y d d' r : Bool) → (y ≡ true → d ≡ d') → ((x && (y && d)) || (r && d')) ≡ (((x && y) || r) && d')
    here true true d d' r q = rw (q refl) (both d' r)
      where
        both : (z s : Bool) → (z || (s && z)) ≡ z
        both true s = refl
        both false true = refl
        both false false = refl
    here true false d d' r q = refl
    here false y d d' r q = refl

-- tests that agree above a bound mark the windows above it alike
marked-agree : (from : ℕ) (es : List ℕ) (c c' : ℕ → Bool) → Rising from es → ((x : ℕ) → from < x → c x ≡ c' x) → marked c es ≡ marked c' es
marked-agree from [] c c' h a = refl
marked-agree from (e ∷ es) c c' h a =
    let first : c e ≡ c' e = a e h.0 in
    let mark : Bool → FrontWindow = λ b. record { hi = e; done = b } in
    ap (λ b. mark b ∷ marked c es) first ∙ ap (λ ws. mark (c' e) ∷ ws) (marked-agree e es c c' h.1 (λ x l. a x (omega (arith, l, h.0))))

finished-above : (from : ℕ) (ws : List FrontWindow) (lo hi : ℕ) → Rises from ws → lo < from → finished_from from ws lo hi ≡ ws
finished-above from [] lo hi h l = refl
finished-above from (w ∷ ws) lo hi h l =
    let other = and_left (eqb from lo) (eqb w.hi hi) (ne_eqb from lo (λ e. omega (arith, l, e))) in
    ap (λ v. v ∷ finished_from w.hi ws lo hi) (cond-false (eqb from lo && eqb w.hi hi) (record w { done = true }) w other)
    ∙ ap (λ vs. w ∷ vs) (finished-above w.hi ws lo hi h.1 (omega (arith, h.0, l)))

-- marking one window changes the test only at that window
pub finished-marked : (from : ℕ) (es : List ℕ) (c c' : ℕ → Bool) (lo hi : ℕ) → Rises from (marked c es) → has_window from es lo hi ≡ true → ((x : ℕ) → Grown (c x) (c' x) lo hi x) → finished_from from (marked c es) lo hi ≡ marked c' es
finished-marked from [] c c' lo hi h w g = cc
finished-marked from (e ∷ es) c c' lo hi h w g =
    let mark : Bool → FrontWindow = λ b. record { hi = e; done = b } in
    elim (or_cases _ _ w) [
      | inl here ↦
          let p = and_parts (eqb from lo) (eqb e hi) here in
          let a : from ≡ lo = eqb-true from lo p.0 in
          let b : e ≡ hi = eqb-true e hi p.1 in
          ap (λ v. v ∷ finished_from e (marked c es) lo hi) (cond-true (eqb from lo && eqb e hi) (mark true) (mark (c e)) here)
          ∙ ap (λ d. mark d ∷ finished_from e (marked c es) lo hi) (sym ((g e).within (omega (arith, h.0, a)) (omega (arith, b))))
          ∙ ap (λ vs. mark (c' e) ∷ vs) (finished-above e (marked c es) lo hi h.1 (omega (arith, h.0, a)))
          ∙ ap (λ vs. mark (c' e) ∷ vs) (marked-agree e es c c' (rising-marked e es c h.1) (λ x l. sym ((g x).above (omega (arith, l, b)))))
      | inr later ↦
          let within = has-within e es lo hi (rising-marked e es c h.1) later in
          let other = and_left (eqb from lo) (eqb e hi) (ne_eqb from lo (λ q. omega (arith, h.0, within.0, q))) in
          ap (λ v. v ∷ finished_from e (marked c es) lo hi) (cond-false (eqb from lo && eqb e hi) (mark true) (mark (c e)) other)
          ∙ ap (λ d. mark d ∷ finished_from e (marked c es) lo hi) (sym ((g e).below within.0))
          ∙ ap (λ vs. mark (c' e) ∷ vs) (finished-marked e es c c' lo hi h.1 later g)
    ]

-- ---- the low water is the mark

-- the first window above the mark is not covered
open-next : (from e : ℕ) (es : List ℕ) (rs : List DoneRange) → Rising from (e ∷ es) → Apart from rs → AtBounds from (e ∷ es) rs → covers from rs e ≡ false
open-next from e es [] h a b = lt-leb e from h.0
open-next from e es (r ∷ rs) h a b =
    cover-low from r rs e (bound-le e es r.lo h.1 (bound-next from e es r.lo a.0 b.0)) ∙ lt-leb e from h.0

-- bounds above the first one are later ones
bounds-next : (from e : ℕ) (es : List ℕ) (m : ℕ) (rs : List DoneRange) → from ≤ m → Apart m rs → AtBounds from (e ∷ es) rs → AtBounds e es rs
bounds-next from e es m [] l a b = tt
bounds-next from e es m (r ∷ rs) l a b =
    (bound-next from e es r.lo (omega (arith, l, a.0)) b.0, bound-next from e es r.hi (omega (arith, l, a.0, a.1)) b.1, bounds-next from e es r.hi rs (omega (arith, l, a.0, a.1)) a.2 b.2)

pub low-marked : (from : ℕ) (es : List ℕ) (m : ℕ) (rs : List DoneRange) → Rising from es → IsBound from es m → Apart m rs → AtBounds from es rs → low_in from (marked (covers m rs) es) ≡ m
low-marked from [] m rs h k a b = k
low-marked from (e ∷ es) m rs h (inl at) a b =
    let next : covers m rs e ≡ false = subst (λ n. covers n rs e ≡ false) at (open-next from e es rs h (subst (λ n. Apart n rs) (sym at) a) b) in
    cond-false (covers m rs e) (low_in e (marked (covers m rs) es)) from next ∙ at
low-marked from (e ∷ es) m rs h (inr more) a b =
    let above = bound-le e es m h.1 more in
    cond-true (covers m rs e) (low_in e (marked (covers m rs) es)) from (cover-under m rs e a above)
    ∙ low-marked e es m rs h.1 more a (bounds-next from e es m rs (omega (arith, above, h.0)) a b)

-- ---- the runs are the ranges

mutual
  -- from a bound at or below the mark: the run up to the mark is not counted
  run_count-inside : (from : ℕ) (es : List ℕ) (m : ℕ) (rs : List DoneRange) → Rising from es → IsBound from es m → Apart m rs → AtBounds from es rs → run_count true (marked (covers m rs) es) ≡ length rs
  run_count-inside from [] m [] h k a b = refl
  run_count-inside from [] m (r ∷ rs) h k a b = let at : from ≡ r.lo = b.0 in let mark : from ≡ m = k in absurd (omega (arith, at, mark, a.0))
  run_count-inside from (e ∷ es) m rs h (inl at) a b =
      let next : covers m rs e ≡ false = subst (λ n. covers n rs e ≡ false) at (open-next from e es rs h (subst (λ n. Apart n rs) (sym at) a) b) in
      let w : FrontWindow = record { hi = e; done = covers m rs e } in
      omega (arith, run_count-open true w (marked (covers m rs) es) next, run_count-outside e es m rs h.1 (omega (arith, at, h.0)) a (bounds-next from e es m rs (omega (arith, at)) a b))
  run_count-inside from (e ∷ es) m rs h (inr more) a b =
      let above = bound-le e es m h.1 more in
      let w : FrontWindow = record { hi = e; done = covers m rs e } in
      omega (arith, run_count-done true w (marked (covers m rs) es) (cover-under m rs e a above), run_count-inside e es m rs h.1 more a (bounds-next from e es m rs (omega (arith, above, h.0)) a b))

  -- from a bound above the mark that no range reaches
  run_count-outside : (from : ℕ) (es : List ℕ) (m : ℕ) (rs : List DoneRange) → Rising from es → m < from → Apart m rs → AtBounds from es rs → run_count false (marked (covers m rs) es) ≡ length rs
  run_count-outside from [] m [] h l a b = refl
  run_count-outside from [] m (r ∷ rs) h l a b = let at : from ≡ r.lo = b.0 in let top : from ≡ r.hi = b.1 in absurd (omega (arith, at, top, a.1))
  run_count-outside from (e ∷ es) m [] h l a b =
      let w : FrontWindow = record { hi = e; done = covers m [] e } in
      omega (arith, run_count-open false w (marked (covers m []) es) (lt-leb e m (omega (arith, l, h.0))), run_count-outside e es m [] h.1 (omega (arith, l, h.0)) tt tt)
  run_count-outside from (e ∷ es) m (r ∷ rs) h l a b =
      let w : FrontWindow = record { hi = e; done = covers m (r ∷ rs) e } in
      elim b.0 [
        | inl at ↦
            let top = bound-next from e es r.hi (omega (arith, at, a.1)) b.1 in
            let done : covers m (r ∷ rs) e ≡ true = cover-high m r rs e (omega (arith, at, h.0)) ∙ cover-under r.hi rs e a.2 (bound-le e es r.hi h.1 top) in
            let same : marked (covers m (r ∷ rs)) es ≡ marked (covers r.hi rs) es = marked-agree e es (covers m (r ∷ rs)) (covers r.hi rs) h.1 (λ x above. cover-high m r rs x (omega (arith, at, h.0, above))) in
            let count : run_count true (marked (covers m (r ∷ rs)) es) ≡ length rs = ap (run_count true) same ∙ run_count-inside e es r.hi rs h.1 top a.2 (bounds-next from e es r.hi rs (omega (arith, at, a.1)) a.2 b.2) in
            omega (arith, run_count-done false w (marked (covers m (r ∷ rs)) es) done, count)
        | inr more ↦
            let low = bound-le e es r.lo h.1 more in
            let open_yet : covers m (r ∷ rs) e ≡ false = cover-low m r rs e low ∙ lt-leb e m (omega (arith, l, h.0)) in
            let top = bound-next from e es r.hi (omega (arith, h.0, low, a.1)) b.1 in
            omega (arith, run_count-open false w (marked (covers m (r ∷ rs)) es) open_yet, run_count-outside e es m (r ∷ rs) h.1 (omega (arith, l, h.0)) a (more, top, bounds-next from e es r.hi rs (omega (arith, h.0, low, a.1)) a.2 b.2))
      ]

-- ---- a complete front

pub front-rising : {start : ℕ} {es : List ℕ} {m : ℕ} {rs : List DoneRange} → IsKept start es m rs → Rising start es
front-rising {start} {es} {m} {rs} k = rising-marked start es (covers m rs) k.front.rises

pub front-window : (start : ℕ) (es : List ℕ) (m : ℕ) (rs : List DoneRange) (lo hi : ℕ) → is_window (front_of start es m rs) lo hi ≡ has_window start es lo hi
front-window start es m rs lo hi = window-marked start es (covers m rs) lo hi

pub front-done : (start : ℕ) (es : List ℕ) (m : ℕ) (rs : List DoneRange) (lo hi : ℕ) → is_done (front_of start es m rs) lo hi ≡ (has_window start es lo hi && covers m rs hi)
front-done start es m rs lo hi = done-marked start es (covers m rs) lo hi

pub front-low : (start : ℕ) (es : List ℕ) (m : ℕ) (rs : List DoneRange) → IsKept start es m rs → low_water (front_of start es m rs) ≡ m
front-low start es m rs k = low_in-is start (marked (covers m rs) es) ∙ low-marked start es m rs (front-rising k) k.low k.apart k.bounds

pub front-count : (start : ℕ) (es : List ℕ) (m : ℕ) (rs : List DoneRange) → IsKept start es m rs → range_count (front_of start es m rs) ≡ length rs
front-count start es m rs k = run_count-above (marked (covers m rs) es) ∙ run_count-inside start es m rs (front-rising k) k.low k.apart k.bounds

-- ---- an appended window

bound-end : (from : ℕ) (es : List ℕ) (c : ℕ → Bool) (x : ℕ) → Rising from es → IsBound from es x → x ≤ end_from from (marked c es)
bound-end from [] c x h b = omega (arith, b)
bound-end from (e ∷ es) c x h (inl at) = omega (arith, at, h.0, bound-end e es c e h.1 (bound-first e es))
bound-end from (e ∷ es) c x h (inr b) = bound-end e es c x h.1 b

bounds-end : (from : ℕ) (es : List ℕ) (c : ℕ → Bool) (rs : List DoneRange) (hi : ℕ) → Rising from es → AtBounds from es rs → end_from from (marked c es) < hi → AllUnder hi rs
bounds-end from es c [] hi h b l = tt
bounds-end from es c (r ∷ rs) hi h b l = (omega (arith, bound-end from es c r.hi h b.1, l), bounds-end from es c rs hi h b.2 l)

bounds-append : (from : ℕ) (es : List ℕ) (hi : ℕ) (rs : List DoneRange) → AtBounds from es rs → AtBounds from (es ++ hi ∷ []) rs
bounds-append from es hi [] b = tt
bounds-append from es hi (r ∷ rs) b = (bound-append from es hi r.lo b.0, bound-append from es hi r.hi b.1, bounds-append from es hi rs b.2)

pub front-appended : (start : ℕ) (es : List ℕ) (m : ℕ) (rs : List DoneRange) (hi : ℕ) → IsKept start es m rs → end_of (front_of start es m rs) < hi → front_of start (es ++ hi ∷ []) m rs ≡ appended (front_of start es m rs) hi
front-appended start es m rs hi k l =
    let h = front-rising k in
    let mark : ℕ → FrontWindow = λ x. record { hi = x; done = covers m rs x } in
    let new : covers m rs hi ≡ false = cover-above m rs hi k.apart (omega (arith, bound-end start es (covers m rs) m h k.low, l)) (bounds-end start es (covers m rs) rs hi h k.bounds l) in
    ap (λ ws. record { start = start; windows = ws }) (map_push mark es hi)
    ∙ ap (λ b. record { start = start; windows = marked (covers m rs) es ++ record { hi = hi; done = b } ∷ [] }) new

pub kept-appended : (start : ℕ) (es : List ℕ) (m : ℕ) (rs : List DoneRange) (hi : ℕ) → IsKept start es m rs → end_of (front_of start es m rs) < hi → hi < 2 ^ 64 → IsKept start (es ++ hi ∷ []) m rs
kept-appended start es m rs hi k l small =
    record {
      front = subst IsFront (sym (front-appended start es m rs hi k l)) (IsFront-appended (front_of start es m rs) hi k.front l small);
      low = bound-append start es hi m k.low;
      apart = k.apart;
      bounds = bounds-append start es hi rs k.bounds;
    }

-- ---- a finished window

-- the result of `finish`, by whether there is such a window and whether it is covered
pub answer-none : (start : ℕ) (es : List ℕ) (m : ℕ) (rs : List DoneRange) (lo hi : ℕ) → has_window start es lo hi ≡ false → finish_answer (front_of start es m rs) lo hi ≡ Err faults.NoSuchWindow
answer-none start es m rs lo hi none = finish_answer-no_window (front_of start es m rs) lo hi (front-window start es m rs lo hi ∙ none)

pub answer-done : (start : ℕ) (es : List ℕ) (m : ℕ) (rs : List DoneRange) (lo hi : ℕ) → has_window start es lo hi ≡ true → covers m rs hi ≡ true → finish_answer (front_of start es m rs) lo hi ≡ Err faults.AlreadyDone
answer-done start es m rs lo hi window covered = finish_answer-done (front_of start es m rs) lo hi (front-done start es m rs lo hi ∙ and_from _ _ window covered)

pub answer-ok : (start : ℕ) (es : List ℕ) (m : ℕ) (rs : List DoneRange) (lo hi : ℕ) → has_window start es lo hi ≡ true → covers m rs hi ≡ false → finish_answer (front_of start es m rs) lo hi ≡ Ok tt
answer-ok start es m rs lo hi window open_yet =
    finish_answer-ok (front_of start es m rs) lo hi (front-window start es m rs lo hi ∙ window) (front-done start es m rs lo hi ∙ and_right _ _ open_yet)

finish-joins : (start : ℕ) (es : List ℕ) (m : ℕ) (rs : List DoneRange) (lo hi : ℕ) → IsKept start es m rs → has_window start es lo hi ≡ true → covers m rs hi ≡ false → Joins start es lo hi m rs (joined m rs lo hi)
finish-joins start es m rs lo hi k window open_yet =
    let within = has-within start es lo hi (front-rising k) window in
    let clear = clear-from start es lo hi m rs (front-rising k) window within.1 k.low k.bounds k.apart open_yet in
    joins start es lo hi within.1 within.2 within.3 m rs k.apart clear k.low k.bounds

pub front-finished : (start : ℕ) (es : List ℕ) (m : ℕ) (rs : List DoneRange) (lo hi : ℕ) → IsKept start es m rs → has_window start es lo hi ≡ true → covers m rs hi ≡ false → finished (front_of start es m rs) lo hi ≡ front_of start es (joined m rs lo hi).0 (joined m rs lo hi).1
front-finished start es m rs lo hi k window open_yet =
    let join = finish-joins start es m rs lo hi k window open_yet in
    ap (λ ws. record { start = start; windows = ws }) (finished-marked start es (covers m rs) (covers (joined m rs lo hi).0 (joined m rs lo hi).1) lo hi k.front.rises window join.grown)

pub kept-finished : (start : ℕ) (es : List ℕ) (m : ℕ) (rs : List DoneRange) (lo hi : ℕ) → IsKept start es m rs → has_window start es lo hi ≡ true → covers m rs hi ≡ false → IsKept start es (joined m rs lo hi).0 (joined m rs lo hi).1
kept-finished start es m rs lo hi k window open_yet =
    let join = finish-joins start es m rs lo hi k window open_yet in
    let front = subst IsFront (front-finished start es m rs lo hi k window open_yet) (IsFront-finished (front_of start es m rs) lo hi k.front) in
    record { front = front; low = join.low; apart = join.apart; bounds = join.bounds }
