-- Each step keeps the rule of the parcels.
use Rattle.proof_prelude.proofs.{◌≡◌, ◌≢◌, ℕ, ◌+◌, ◌-◌, ◌<◌, List, [], ◌∷◌, ◌++◌, length, set, sym, refl, ap, ◌∙◌, subst, ⊎_elim, arith}
use mathlib.Core.Option.{some, some-ne-none}
use lib.ListN.{get_elem?}
use Rattle.crossbeam_channel.specs.Fifo.{Pushes, Pops, Forks, Merges, Learns}
use Rattle.atomic_table.proofs.Lists.{at_set, at_snoc}
use Rattle.pool_workers.specs.{total, weigh, ParcelView, ParcelMessage, parcel_view, parcels, has_sent, has_got, IdleIsEmpty, Balanced, Accounts}
use Rattle.pool_workers.proofs.Sums.{total_set, total_snoc, total_whole, weigh-append}
use Rattle.pool_workers.specs.declared.parcels.ParcelMessage.TheVariants.{Parcel, End}

idle_set : (views : List ParcelView) (port : ℕ) (w : ParcelView) → (w.parts ≡ 0 → (w.sent ≡ []) × (w.got ≡ [])) → IdleIsEmpty views → IdleIsEmpty (set views port w)
idle_set views port w mine others j u at none =
    ⊎_elim (λ (x : (j ≡ port) × (w ≡ u)). subst (λ (y : ParcelView). y.parts ≡ 0 → (y.sent ≡ []) × (y.got ≡ [])) x.1 mine none) (λ (x : (j ≢ port) × (get_elem? views j ≡ some u)). others j u x.1 none) (at_set views port j w u at)

idle_snoc : (views : List ParcelView) (w : ParcelView) → (w.parts ≡ 0 → (w.sent ≡ []) × (w.got ≡ [])) → IdleIsEmpty views → IdleIsEmpty (views ++ w ∷ [])
idle_snoc views w mine others j u at none =
    ⊎_elim (λ (x : get_elem? views j ≡ some u). others j u x none) (λ (x : w ≡ u). subst (λ (y : ParcelView). y.parts ≡ 0 → (y.sent ≡ []) × (y.got ≡ [])) x mine none) (at_snoc views w u j at)

module _ {S : Type 0} where
  pub parcels-append : (xs ys : List (ParcelMessage S)) → parcels (xs ++ ys) ≡ parcels xs ++ parcels ys
  parcels-append [] ys = refl
  parcels-append (Parcel number found ∷ xs) ys = ap (λ l. (number, length found.parcel.docs) ∷ l) (parcels-append xs ys)
  parcels-append (End ∷ xs) ys = parcels-append xs ys

  weigh-items : (h : ℕ → ℕ → ℕ) (xs ys : List (ParcelMessage S)) → weigh h (parcels (xs ++ ys)) ≡ weigh h (parcels xs) + weigh h (parcels ys)
  weigh-items h xs ys = ap (weigh h) (parcels-append xs ys) ∙ weigh-append h (parcels xs) (parcels ys)

  weigh-cons : (h : ℕ → ℕ → ℕ) (x : ParcelMessage S) (xs : List (ParcelMessage S)) → weigh h (parcels (x ∷ xs)) ≡ weigh h (parcels (x ∷ [])) + weigh h (parcels xs)
  weigh-cons h x xs = weigh-items h (x ∷ []) xs

  pub sends : (n port : ℕ) (v : ParcelView) (x : ParcelMessage S) → 0 < v.parts → Pushes (Balanced {S = S}) n port v x (λ w. w ≡ has_sent {S = S} v x)
  sends n port v x part items views room b at =
      let w : ParcelView = has_sent v x in (
        w,
        (
          (let s = total_set (λ (u : ParcelView). u.parts) views port v w at in let p = b.0 in omega arith),
          (λ h.
              let s = total_set (λ (u : ParcelView). weigh h u.sent) views port v w at in
              let t = total_set (λ (u : ParcelView). weigh h u.got) views port v w at in
              let p = b.1 h in
              omega (arith, weigh-append h v.sent (parcels (x ∷ [])), weigh-items h items (x ∷ []))),
          idle_set views port w (λ none. absurd (omega arith)) b.2,
        ),
        refl,
      )

  pub gets : (port : ℕ) (v : ParcelView) → 0 < v.parts → Pops (Balanced {S = S}) port v (λ x w. w ≡ has_got {S = S} v x)
  gets port v part x items views b at =
      let w : ParcelView = has_got v x in (
        w,
        (
          (let s = total_set (λ (u : ParcelView). u.parts) views port v w at in let p = b.0 in omega arith),
          (λ h.
              let s = total_set (λ (u : ParcelView). weigh h u.sent) views port v w at in
              let t = total_set (λ (u : ParcelView). weigh h u.got) views port v w at in
              let p = b.1 h in
              omega (arith, weigh-append h v.got (parcels (x ∷ [])), weigh-cons h x items)),
          idle_set views port w (λ none. absurd (omega arith)) b.2,
        ),
        refl,
      )

  pub forks : (port : ℕ) (v : ParcelView) → 1 < v.parts → Forks (Balanced {S = S}) port v (parcel_view (v.parts - 1) v.sent v.got) (parcel_view 1 [] [])
  forks port v part items views b at =
      let l : ParcelView = parcel_view (v.parts - 1) v.sent v.got in
      let r : ParcelView = parcel_view 1 [] [] in
      let vs : List ParcelView = set views port l in (
        (let s = total_set (λ (u : ParcelView). u.parts) views port v l at in let t = total_snoc (λ (u : ParcelView). u.parts) vs r in let p = b.0 in omega arith),
        (λ h.
            let s = total_set (λ (u : ParcelView). weigh h u.sent) views port v l at in
            let s' = total_snoc (λ (u : ParcelView). weigh h u.sent) vs r in
            let t = total_set (λ (u : ParcelView). weigh h u.got) views port v l at in
            let t' = total_snoc (λ (u : ParcelView). weigh h u.got) vs r in
            let p = b.1 h in
            omega arith),
        idle_snoc vs r (λ none. absurd (omega arith)) (idle_set views port l (λ none. absurd (omega arith)) b.2),
      )

  pub merges : (port : ℕ) (v : ParcelView) (other : ℕ) (u : ParcelView) → 0 < v.parts → Merges (Balanced {S = S}) port v other u (parcel_view (v.parts + u.parts) (v.sent ++ u.sent) (v.got ++ u.got)) (parcel_view 0 [] [])
  merges port v other u part items views b at two at' =
      let both : ParcelView = parcel_view (v.parts + u.parts) (v.sent ++ u.sent) (v.got ++ u.got) in
      let spent : ParcelView = parcel_view 0 [] [] in
      let vs : List ParcelView = set views port both in (
        (let s = total_set (λ (y : ParcelView). y.parts) views port v both at in let t = total_set (λ (y : ParcelView). y.parts) vs other u spent at' in let p = b.0 in omega arith),
        (λ h.
            let s = total_set (λ (y : ParcelView). weigh h y.sent) views port v both at in
            let s' = total_set (λ (y : ParcelView). weigh h y.sent) vs other u spent at' in
            let t = total_set (λ (y : ParcelView). weigh h y.got) views port v both at in
            let t' = total_set (λ (y : ParcelView). weigh h y.got) vs other u spent at' in
            let p = b.1 h in
            omega (arith, weigh-append h v.sent u.sent, weigh-append h v.got u.got)),
        idle_set vs other spent (λ none. (refl, refl)) (idle_set views port both (λ none. absurd (omega arith)) b.2),
      )

  pub learns : (port : ℕ) (v : ParcelView) → v.parts ≡ 1024 → Learns (Balanced {S = S}) port v (Accounts {S = S} v)
  learns port v all items views b at h =
      let parts : total (λ (u : ParcelView). u.parts) views ≡ v.parts = b.0 ∙ sym all in
      let s = total_whole (λ (u : ParcelView). u.parts) (λ (u : ParcelView). weigh h u.sent) views port v (λ p u e none. ap (weigh h) (b.2 p u e none).0) at parts in
      let t = total_whole (λ (u : ParcelView). u.parts) (λ (u : ParcelView). weigh h u.got) views port v (λ p u e none. ap (weigh h) (b.2 p u e none).1) at parts in
      let p = b.1 h in
      omega arith

pub parcels_begin : (S : Type 0) → Balanced {S = S} [] (parcel_view 1024 [] [] ∷ [])
parcels_begin S = (refl, (λ h. refl), idle_snoc [] (parcel_view 1024 [] []) (λ none. absurd (omega arith)) (λ j u at none. absurd (some-ne-none u (sym at))))
