-- Defines fronts, which are lists of adjacent windows, and their low water, as specified in docs/PROFILE.md, "Windows
-- and low water".
use Rattle.std.specs.Prelude.{◌≡◌, ℕ, ◌<◌, ◌^◌, ◌+◌, Bool, false, true, ◌&&◌, ◌==◌, nat_le, if◌then◌else◌, List, [], ◌∷◌, ◌++◌, Result, Ok, Err, map, take_while, refl}
use Rattle.std.specs.Coded.{Coded, code_by, coded×, coded_ℕ, coded_bool, coded_list}
use Rattle.std.specs.List.{list_any, list_all}
use Rattle.range_front.specs.declared.fault.FrontFault.{FrontFault}
use Rattle.range_front.specs.declared.fault.FrontFault.TheVariants as faults

-- A window of a front: its upper bound, and whether the window is done. The first window of a front begins at the
-- front's start, and each later window begins at the end of the previous window.
pub record FrontWindow : Type 0 where
  pub hi : ℕ
  pub done : Bool

-- A front: a sequence at which the first window begins, and a list of adjacent windows.
pub record FrontValue : Type 0 where
  pub start : ℕ
  pub windows : List FrontWindow

abbrev pub coded_front_window : Coded FrontWindow
coded_front_window =
    code_by (ℕ × Bool) (coded× coded_ℕ coded_bool) (λ w. (w.hi, w.done)) (λ p. record { hi = p.0; done = p.1 })
    (λ _. refl)

abbrev pub coded_front : Coded FrontValue
coded_front =
    code_by (ℕ × List FrontWindow) (coded× coded_ℕ (coded_list coded_front_window)) (λ f. (f.start, f.windows))
    (λ p. record { start = p.0; windows = p.1 }) (λ _. refl)

-- The value that a `Front` has in contracts. The field `front` has the start and the windows, and `room` is the number
-- of calls of `finish` for which space is reserved.
pub record FrontWithRoom : Type 0 where
  pub front : FrontValue
  pub room : ℕ

-- ---- derived values

-- A window (lo, hi]: both bounds, and whether the window is done.
pub record Span : Type 0 where
  pub lo : ℕ
  pub hi : ℕ
  pub done : Bool

-- A list of adjacent windows, each with its lower and upper bound. The first window of the list begins at `lo`.
abbrev pub spans_from : ℕ → List FrontWindow → List Span
spans_from lo [] = []
spans_from lo (w ∷ ws) = record { lo = lo; hi = w.hi; done = w.done } ∷ spans_from w.hi ws

-- The windows of front f (a list of adjacent windows) in order, each with its lower and upper bound.
abbrev pub spans : FrontValue → List Span
spans f = spans_from f.start f.windows

-- The lower and upper bounds of the windows of front f.
abbrev pub bounds : FrontValue → List (ℕ × ℕ)
bounds f = map (λ s. (s.lo, s.hi)) (spans f)

-- Whether (lo, hi] is a window of front f.
abbrev pub is_window : FrontValue → ℕ → ℕ → Bool
is_window f lo hi = list_any (λ s. (s.lo == lo) && (s.hi == hi)) (spans f)

-- Whether front f has the window (lo, hi], and this window is done.
abbrev pub is_done : FrontValue → ℕ → ℕ → Bool
is_done f lo hi = list_any (λ s. (s.lo == lo) && ((s.hi == hi) && s.done)) (spans f)

-- Whether every window of front f is done.
abbrev pub all_done : FrontValue → Bool
all_done f = list_all (λ w. w.done) f.windows

-- The upper bound of the last of the given windows, or `start` if there are no windows.
abbrev pub end_from : ℕ → List FrontWindow → ℕ
end_from start [] = start
end_from start (w ∷ ws) = end_from w.hi ws

-- The upper bound of the last window of front f, or the start of f if f has no windows.
abbrev pub end_of : FrontValue → ℕ
end_of f = end_from f.start f.windows

-- The end of the leading done windows of front f, or the start of f if f does not begin with a done window.
abbrev pub low_water : FrontValue → ℕ
low_water f = end_from f.start (take_while (λ w. w.done) f.windows)

-- The windows of a front above the front's low water.
abbrev pub above_low_water : List FrontWindow → List FrontWindow
above_low_water [] = []
above_low_water (w ∷ ws) = if w.done then above_low_water ws else w ∷ ws

-- The number of maximal groups of adjacent done windows that begin within a list. If `before` is true, a done window
-- directly precedes the list, so done windows at the list's start begin no new group.
abbrev pub run_count : Bool → List FrontWindow → ℕ
run_count before [] = 0
run_count before (w ∷ ws) = (if w.done then (if before then 0 else 1) else 0) + run_count w.done ws

-- The number of maximal groups of adjacent done windows above the low water.
abbrev pub range_count : FrontValue → ℕ
range_count f = run_count false (above_low_water f.windows)

-- ---- effects of calls

-- A new front without windows.
abbrev pub no_windows : ℕ → FrontValue
no_windows start = record { start = start; windows = [] }

-- Front f after adding a window that is not done, and that reaches from the end of f to `hi`.
abbrev pub appended : FrontValue → ℕ → FrontValue
appended f hi = record f { windows = f.windows ++ record { hi = hi; done = false } ∷ [] }

-- The result of appending a window to front f, if no allocation fails. Only a window that ends above the end of front f
-- is accepted.
abbrev pub append_answer : FrontValue → ℕ → Result (Unit {0}) FrontFault
append_answer f hi = if nat_le hi (end_of f) then Err (faults.NotRising (end_of f)) else Ok tt

-- The given adjacent windows with the window (lo, hi] marked as done. The first of the given windows begins at `from`.
abbrev pub finished_from : ℕ → List FrontWindow → ℕ → ℕ → List FrontWindow
finished_from from [] lo hi = []
finished_from from (w ∷ ws) lo hi =
    (if (from == lo) && (w.hi == hi) then record w { done = true } else w) ∷ finished_from w.hi ws lo hi

-- Front f after the window (lo, hi] is marked as done.
abbrev pub finished : FrontValue → ℕ → ℕ → FrontValue
finished f lo hi = record f { windows = finished_from f.start f.windows lo hi }

-- The result of `finish`, if space is reserved for the call.
abbrev pub finish_answer : FrontValue → ℕ → ℕ → Result (Unit {0}) FrontFault
finish_answer f lo hi =
    if is_window f lo hi then (if is_done f lo hi then Err faults.AlreadyDone else Ok tt) else Err faults.NoSuchWindow

-- ---- the invariant

-- The windows of a list are consecutive: the first window begins at `lo`, and each later window begins at the end of
-- the previous window. The upper bound of each window is above its lower bound.
abbrev pub IsConsecutive : ℕ → List Span → Type 0
IsConsecutive lo [] = Unit {0}
IsConsecutive lo (s ∷ ss) = (s.lo ≡ lo) × (s.lo < s.hi) × IsConsecutive s.hi ss

-- The upper bounds of a list of adjacent windows rise, and the first upper bound is above `lo`.
abbrev pub Rises : ℕ → List FrontWindow → Type 0
Rises lo [] = Unit {0}
Rises lo (w ∷ ws) = (lo < w.hi) × Rises w.hi ws

-- The invariant of front f.
pub record IsFront (f : FrontValue) : Type 0 where
  pub rises : Rises f.start f.windows
  pub in_range : end_of f < 2 ^ 64
