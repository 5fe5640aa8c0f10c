-- Defines the rule of the channel of parcels, as specified in docs/PROFILE.md, "The pool".
use Rattle.std.specs.Prelude.{◌≡◌, ◌+◌, ℕ, List, [], ◌∷◌, ◌++◌, length}
use mathlib.Core.Option.{some}
use lib.ListN.{get_elem?}
use Rattle.pool_workers.specs.Sums.{total, weigh}
use Rattle.pool_workers.specs.declared.parcels.ParcelView.{ParcelView}
use Rattle.pool_workers.specs.declared.parcels.ParcelMessage.{ParcelMessage}
use Rattle.pool_workers.specs.declared.parcels.ParcelMessage.TheVariants.{Parcel, End}

abbrev pub parcel_view : ℕ → List (ℕ × ℕ) → List (ℕ × ℕ) → ParcelView
parcel_view parts sent got = record { parts = parts; sent = sent; got = got }

-- A thread without any part of the right to use the channel of parcels has neither sent nor received a parcel.
abbrev pub IdleIsEmpty : List ParcelView → Type 0
IdleIsEmpty views =
    (port : ℕ) (v : ParcelView) → get_elem? views port ≡ some v → v.parts ≡ 0 → (v.sent ≡ []) × (v.got ≡ [])

module _ {S : Type 0} where
  -- For each parcel in a list of messages, a pair of the parcel's number and the number of its documents.
  abbrev pub parcels : List (ParcelMessage S) → List (ℕ × ℕ)
  parcels [] = []
  parcels (Parcel number found ∷ xs) = (number, length found.parcel.docs) ∷ parcels xs
  parcels (End ∷ xs) = parcels xs

  abbrev pub has_sent : ParcelView → ParcelMessage S → ParcelView
  has_sent v x = parcel_view v.parts (v.sent ++ parcels (x ∷ [])) v.got

  abbrev pub has_got : ParcelView → ParcelMessage S → ParcelView
  has_got v x = parcel_view v.parts v.sent (v.got ++ parcels (x ∷ []))

  -- The sent parcels are exactly the received and the queued parcels. A pair of a parcel's number and its count of
  -- documents occurs as often among the sent parcels as among the received and queued parcels.
  abbrev pub Balanced : List (ParcelMessage S) → List ParcelView → Type 0
  Balanced items views =
      (total (λ (v : ParcelView). v.parts) views ≡ 1024)
      × ((h : ℕ → ℕ → ℕ) → total (λ (v : ParcelView). weigh h v.sent) views
      ≡ total (λ (v : ParcelView). weigh h v.got) views + weigh h (parcels items))
      × IdleIsEmpty views

  -- What a thread knows if it has the complete ghost right to use the channel of parcels. The sent parcels are exactly
  -- the received parcels and the parcels that are still in the channel.
  abbrev pub Accounts : ParcelView → List (ParcelMessage S) → Type 0
  Accounts v items = (h : ℕ → ℕ → ℕ) → weigh h v.sent ≡ weigh h v.got + weigh h (parcels items)
