-- Lemmas about fronts, for dependent crates. Fronts are specified in docs/PROFILE.md, "Windows and low water".
use Rattle.std.proofs.Common.{◌≡◌, ◌⊎◌, inl, inr, ℕ, ◌<◌, ◌≤◌, ◌^◌, true, false, ◌&&◌, ◌||◌, ◌==◌, [], ◌∷◌, ◌++◌, map, Ok, Err, sym, ap, ◌∙◌, arith}
use Rattle.std.proofs.lemmas.Bool.{eqb-true, and_parts, or_cases}
use Rattle.std.specs.List.{list_any}
use Rattle.std.proofs.lemmas.List.{map_push}
use Rattle.range_front.specs.declared.fault.FrontFault.TheVariants as faults
use Rattle.range_front.specs.Front.{FrontValue, Span, spans, bounds, is_window, is_done, end_of, low_water, no_windows, appended, finished, finished_from, finish_answer, IsFront}
use Rattle.range_front.specs.WindowLaws.{low_in-is, window-within, window-bounds, done-window, from-le-low, low-le-end, low-is-end, reached-in, end-append, Rises-append, spans-append, low-append, done-append, end-finished, Rises-finished, bounds-finished_from, done-finished_from, low-finished}

-- ---- the invariant is kept

pub IsFront-no_windows : (start : ℕ) → start < 2 ^ 64 → IsFront (no_windows start)
IsFront-no_windows start small = record { rises = tt; in_range = small }

pub IsFront-appended : (f : FrontValue) (hi : ℕ) → IsFront f → end_of f < hi → hi < 2 ^ 64 → IsFront (appended f hi)
IsFront-appended f hi front above small =
    record {
      rises = Rises-append f.start f.windows (record { hi = hi; done = false }) front.rises above;
      in_range = rw end-append small;
    }

pub IsFront-finished : (f : FrontValue) (lo hi : ℕ) → IsFront f → IsFront (finished f lo hi)
IsFront-finished f lo hi front =
    record {
      rises = Rises-finished f.start f.windows lo hi front.rises;
      in_range = rw end-finished front.in_range;
    }

-- ---- positions of windows

-- A window of a front is between the front's start and end, and is not empty.
pub is_window-within : (f : FrontValue) (lo hi : ℕ) → IsFront f → is_window f lo hi ≡ true → (f.start ≤ lo) × (lo < hi) × (hi ≤ end_of f)
is_window-within f lo hi front window = window-within f.start f.windows lo hi front.rises window

pub is_window-is_done : (f : FrontValue) (lo hi : ℕ) → is_done f lo hi ≡ true → is_window f lo hi ≡ true
is_window-is_done f lo hi done = done-window f.start f.windows lo hi done

-- The bounds of a front's windows determine whether (lo, hi] is a window of the front.
pub is_window-bounds : (f : FrontValue) (lo hi : ℕ) → is_window f lo hi ≡ list_any (λ (b : ℕ × ℕ). (b.0 == lo) && (b.1 == hi)) (bounds f)
is_window-bounds f lo hi = window-bounds f.start f.windows lo hi

-- ---- the low water

pub start-le-low_water : (f : FrontValue) → IsFront f → f.start ≤ low_water f
start-le-low_water f front = rw low_in-is (from-le-low f.start f.windows front.rises)

pub low_water-le-end_of : (f : FrontValue) → IsFront f → low_water f ≤ end_of f
low_water-le-end_of f front = rw low_in-is (low-le-end f.start f.windows front.rises)

-- A front's low water is the sequence `start` at which the front begins, or the end of a done window.
pub low_water-is_end : (f : FrontValue) → (low_water f ≡ f.start) ⊎ ((lo : ℕ) × (is_done f lo (low_water f) ≡ true))
low_water-is_end f = rw low_in-is (low-is-end f.start f.windows)

-- If a sequence is greater than a front's start, and not greater than the front's low water, it is in a done window.
pub reached : (f : FrontValue) (q : ℕ) → IsFront f → f.start < q → q ≤ low_water f → (lo : ℕ) × (hi : ℕ) × (lo < q) × (q ≤ hi) × (is_done f lo hi ≡ true)
reached f q front above under = reached-in f.start f.windows q front.rises above (rw low_in-is at under)

-- ---- an appended window

pub end_of-appended : (f : FrontValue) (hi : ℕ) → end_of (appended f hi) ≡ hi
end_of-appended f hi = end-append f.start f.windows (record { hi = hi; done = false })

pub spans-appended : (f : FrontValue) (hi : ℕ) → spans (appended f hi) ≡ spans f ++ record { lo = end_of f; hi = hi; done = false } ∷ []
spans-appended f hi = spans-append f.start f.windows (record { hi = hi; done = false })

pub bounds-appended : (f : FrontValue) (hi : ℕ) → bounds (appended f hi) ≡ bounds f ++ (end_of f, hi) ∷ []
bounds-appended f hi = ap (map (λ (s : Span). (s.lo, s.hi))) (spans-appended f hi) ∙ map_push (λ (s : Span). (s.lo, s.hi)) (spans f) (record { lo = end_of f; hi = hi; done = false })

pub is_done-appended : (f : FrontValue) (hi a b : ℕ) → is_done (appended f hi) a b ≡ is_done f a b
is_done-appended f hi a b = done-append f.start f.windows hi a b

pub low_water-appended : (f : FrontValue) (hi : ℕ) → low_water (appended f hi) ≡ low_water f
low_water-appended f hi =
    low_in-is f.start (f.windows ++ record { hi = hi; done = false } ∷ []) ∙ low-append f.start f.windows hi ∙ sym (low_in-is f.start f.windows)

-- ---- a finished window

pub end_of-finished : (f : FrontValue) (lo hi : ℕ) → end_of (finished f lo hi) ≡ end_of f
end_of-finished f lo hi = end-finished f.start f.windows lo hi

pub bounds-finished : (f : FrontValue) (lo hi : ℕ) → bounds (finished f lo hi) ≡ bounds f
bounds-finished f lo hi = bounds-finished_from f.start f.windows lo hi

-- After a call of `finish`, the done windows are the windows that were done before, and the window that the call
-- finished.
pub is_done-finished : (f : FrontValue) (lo hi a b : ℕ) → is_done (finished f lo hi) a b ≡ (is_done f a b || (is_window f lo hi && ((lo == a) && (hi == b))))
is_done-finished f lo hi a b = done-finished_from f.start f.windows lo hi a b

-- A window that is done after a call of `finish` was done before the call, or is the window that the call finished.
pub is_done-finished_cases : (f : FrontValue) (lo hi a b : ℕ) → is_done (finished f lo hi) a b ≡ true → (is_done f a b ≡ true) ⊎ ((lo ≡ a) × (hi ≡ b))
is_done-finished_cases f lo hi a b done =
    elim (or_cases (is_done f a b) (is_window f lo hi && ((lo == a) && (hi == b))) (sym (is_done-finished f lo hi a b) ∙ done)) [
      | inl before ↦ inl before
      | inr now ↦
          let same = and_parts (lo == a) (hi == b) (and_parts (is_window f lo hi) ((lo == a) && (hi == b)) now).1 in
          inr (eqb-true lo a same.0, eqb-true hi b same.1)
    ]

pub low_water-finished : (f : FrontValue) (lo hi : ℕ) → IsFront f → low_water f ≤ low_water (finished f lo hi)
low_water-finished f lo hi front =
    omega (arith, low_in-is f.start f.windows, low_in-is f.start (finished_from f.start f.windows lo hi), low-finished f.start f.windows lo hi front.rises)

-- ---- meaning of the results

pub finish_answer-no_window : (f : FrontValue) (lo hi : ℕ) → is_window f lo hi ≡ false → finish_answer f lo hi ≡ Err faults.NoSuchWindow
finish_answer-no_window f lo hi none = rw none

pub finish_answer-done : (f : FrontValue) (lo hi : ℕ) → is_done f lo hi ≡ true → finish_answer f lo hi ≡ Err faults.AlreadyDone
finish_answer-done f lo hi done = rw (is_window-is_done f lo hi done, done)

pub finish_answer-ok : (f : FrontValue) (lo hi : ℕ) → is_window f lo hi ≡ true → is_done f lo hi ≡ false → finish_answer f lo hi ≡ Ok tt
finish_answer-ok f lo hi window open_yet = rw (window, open_yet)
