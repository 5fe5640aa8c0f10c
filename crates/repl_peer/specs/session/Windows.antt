-- Defines the two stored forms of a window: complete, or without the leaves of the window's rows.
use Rattle.std.specs.Prelude.{◌≡◌, ◌⊎◌, ℕ, Bool, true, false, List, map, slice_get, Some}
use Rattle.couch_base.specs.Lists.{Among}
use Rattle.couch_base.specs.Feed.{WindowValue}
use Rattle.range_front.specs.Front.{FrontValue, is_done}

-- The value of a stored window: the window, and whether the session still stores the leaves of the window's rows.
pub record StoredWindowValue : Type 0 where
  pub window : WindowValue
  pub whole : Bool

abbrev pub windows_of : List StoredWindowValue → List WindowValue
windows_of stored = map (λ v. v.window) stored

-- Only done windows are stored without the leaves of their rows.
abbrev pub IsThinnedWhereDone : FrontValue → List StoredWindowValue → Type 0
IsThinnedWhereDone front stored =
    (v : StoredWindowValue) → Among v stored → v.whole ≡ false → is_done front v.window.lo v.window.hi ≡ true

-- A list of stored windows changes from `old` to `new`. A window that `new` stores without leaves has the same form in
-- `old`, or is the window at index `place`.
abbrev pub IsThinner : ℕ → List StoredWindowValue → List StoredWindowValue → Type 0
IsThinner place old new =
    (v : StoredWindowValue) → Among v new → v.whole ≡ false
    → Among v old ⊎ (slice_get (windows_of old) place ≡ Some v.window)
