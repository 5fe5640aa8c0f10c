-- Defines the rule of the channel of windows, as specified in docs/PROFILE.md, "The pool".
use Rattle.std.specs.Prelude.{◌≡◌, ◌+◌, ℕ, List, [], ◌∷◌, ◌++◌, length}
use mathlib.Core.Option.{some}
use lib.ListN.{get_elem?}
use Rattle.pool_workers.specs.Sums.{total, times, once_below}
use Rattle.pool_workers.specs.declared.windows.WindowView.{WindowView}
use Rattle.pool_workers.specs.declared.windows.WindowMessage.{WindowMessage}
use Rattle.pool_workers.specs.declared.windows.WindowMessage.TheVariants.{Window, End}

abbrev pub window_view : ℕ → ℕ → ℕ → List ℕ → WindowView
window_view parts reads count taken = record { parts = parts; reads = reads; count = count; taken = taken }

-- Only the page reader has sent windows. A thread without any right to use the channel of windows has taken no windows,
-- and is not the page reader.
abbrev pub KeepsRole : List WindowView → Type 0
KeepsRole views =
    (port : ℕ) (v : WindowView) → get_elem? views port ≡ some v
    → (v.reads ≡ 0 → v.count ≡ 0) × (v.parts ≡ 0 → (v.taken ≡ []) × (v.reads ≡ 0))

module _ {S : Type 0} where
  -- The list of the numbers that identify the windows in a list of messages.
  abbrev pub numbers : List (WindowMessage S) → List ℕ
  numbers [] = []
  numbers (Window number page ∷ xs) = number ∷ numbers xs
  numbers (End ∷ xs) = numbers xs

  abbrev pub has_read : WindowView → WindowMessage S → WindowView
  has_read v x = window_view v.parts v.reads (v.count + length (numbers (x ∷ []))) v.taken

  abbrev pub has_taken : WindowView → WindowMessage S → WindowView
  has_taken v x = window_view v.parts v.reads v.count (v.taken ++ numbers (x ∷ []))

  -- If the page reader has sent n windows, the queued and taken windows are numbered from 0 to n - 1, without
  -- duplicates.
  abbrev pub Numbered : List (WindowMessage S) → List WindowView → Type 0
  Numbered items views =
      (total (λ (v : WindowView). v.parts) views ≡ 1024)
      × (total (λ (v : WindowView). v.reads) views ≡ 1)
      × ((x : ℕ) → total (λ (v : WindowView). times x v.taken) views + times x (numbers items)
      ≡ once_below x (total (λ (v : WindowView). v.count) views))
      × KeepsRole views

  -- A fact that a thread knows if it alone has the right to use the channel of windows. If n windows were sent, the
  -- taken and the queued windows are numbered from 0 to n - 1, without duplicates.
  abbrev pub Covers : WindowView → List (WindowMessage S) → Type 0
  Covers v items = (x : ℕ) → times x v.taken + times x (numbers items) ≡ once_below x v.count
