-- Defines the stored form of a front (a list of adjacent windows): the ends of the windows, the low water, and the
-- ranges of done windows above the low water.
use Rattle.std.specs.Prelude.{◌≡◌, ◌⊎◌, ℕ, ◌<◌, Bool, false, ◌&&◌, ◌||◌, ◌==◌, nat_le, if◌then◌else◌, List, [], ◌∷◌, map}
use Rattle.range_front.specs.declared.ranges.DoneRange.{DoneRange}
use Rattle.range_front.specs.Front.{FrontWindow, FrontValue, IsFront}

-- ---- the ends

-- The ends of the windows rise: the first end is above `from`, and each later end is above the end before it.
abbrev pub Rising : ℕ → List ℕ → Type 0
Rising from [] = Unit {0}
Rising from (e ∷ es) = (from < e) × Rising e es

-- Whether (lo, hi] is one of the windows in a list of adjacent windows. The list `es` has the end of each window, and
-- the first window begins at `from`.
abbrev pub has_window : ℕ → List ℕ → ℕ → ℕ → Bool
has_window from [] lo hi = false
has_window from (e ∷ es) lo hi = ((from == lo) && (e == hi)) || has_window e es lo hi

-- The sequence x is `from`, at which the first window begins, or is one of the windows' ends `es`.
abbrev pub IsBound : ℕ → List ℕ → ℕ → Type 0
IsBound from [] x = from ≡ x
IsBound from (e ∷ es) x = (from ≡ x) ⊎ IsBound e es x

-- ---- the ranges

-- Each range of done windows begins above the end of the previous range, and the first range begins above the low water
-- `mark`. The upper bound of each range is above the range's lower bound.
abbrev pub Apart : ℕ → List DoneRange → Type 0
Apart mark [] = Unit {0}
Apart mark (r ∷ rs) = (mark < r.lo) × (r.lo < r.hi) × Apart r.hi rs

-- Each range of done windows begins and ends at bounds of windows.
abbrev pub AtBounds : ℕ → List ℕ → List DoneRange → Type 0
AtBounds from es [] = Unit {0}
AtBounds from es (r ∷ rs) = IsBound from es r.lo × IsBound from es r.hi × AtBounds from es rs

-- Whether the sequence x is at most the low water `mark`, or is in one of the given ranges of done windows above
-- `mark`.
abbrev pub covers : ℕ → List DoneRange → ℕ → Bool
covers mark [] x = nat_le x mark
covers mark (r ∷ rs) x = if nat_le x r.lo then nat_le x mark else covers r.hi rs x

-- A range of done windows that ends at `hi` is joined with the list's first range if the first range begins at `hi`. If
-- the list's first range begins at `hi`, the result is a pair: the end of this range, and the later ranges. If the
-- first range does not begin at `hi`, or the list is empty, the result is the pair of `hi` and the unchanged list.
abbrev pub absorbed : ℕ → List DoneRange → ℕ × List DoneRange
absorbed hi [] = (hi, [])
absorbed hi (r ∷ rs) = if r.lo == hi then (r.hi, rs) else (hi, r ∷ rs)

-- The ranges of done windows after adding the window (lo, hi]. The range r is the first of the old ranges that ends at
-- or above `lo`. If the range r ends at `lo` or begins at `hi`, the added window extends r. If the range r neither ends
-- at `lo` nor begins at `hi`, the added window becomes a new range before r.
abbrev pub put_at : DoneRange → List DoneRange → ℕ → ℕ → List DoneRange
put_at r rs lo hi =
    if r.hi == lo then record { lo = r.lo; hi = (absorbed hi rs).0 } ∷ (absorbed hi rs).1
    else (if r.lo == hi then record { lo = lo; hi = r.hi } ∷ rs else record { lo = lo; hi = hi } ∷ (r ∷ rs))

-- The ranges of done windows after adding the window (lo, hi].
abbrev pub put_in : List DoneRange → ℕ → ℕ → List DoneRange
put_in [] lo hi = record { lo = lo; hi = hi } ∷ []
put_in (r ∷ rs) lo hi = if nat_le lo r.hi then put_at r rs lo hi else r ∷ put_in rs lo hi

-- The low water and the ranges of done windows after adding the done window (lo, hi]. The number `mark` is the low
-- water before the window (lo, hi] is added.
abbrev pub joined : ℕ → List DoneRange → ℕ → ℕ → ℕ × List DoneRange
joined mark rs lo hi = if mark == lo then absorbed hi rs else (mark, put_in rs lo hi)

-- ---- the front

-- The list of adjacent windows whose upper bounds are the list `es`. The window that ends at `hi` is done exactly if
-- `done hi` is true.
abbrev pub marked : (ℕ → Bool) → List ℕ → List FrontWindow
marked done es = map (λ hi. record { hi = hi; done = done hi }) es

abbrev pub front_of : ℕ → List ℕ → ℕ → List DoneRange → FrontValue
front_of start es mark rs = record { start = start; windows = marked (covers mark rs) es }

-- The invariant of a stored front.
pub record IsKept (start : ℕ) (es : List ℕ) (mark : ℕ) (rs : List DoneRange) : Type 0 where
  pub front : IsFront (front_of start es mark rs)
  pub low : IsBound start es mark
  pub apart : Apart mark rs
  pub bounds : AtBounds start es rs
