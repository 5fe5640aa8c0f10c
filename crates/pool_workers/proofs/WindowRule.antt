-- Each step keeps the rule of the windows.
use Rattle.proof_prelude.proofs.{◌≡◌, ◌≢◌, ℕ, ◌+◌, ◌-◌, ◌<◌, List, [], ◌∷◌, ◌++◌, set, sym, refl, ap, ◌∙◌, subst, ⊎_elim, arith}
use mathlib.Core.Option.{some, some-ne-none}
use lib.ListN.{get_elem?}
use Rattle.crossbeam_channel.specs.Fifo.{Pushes, Pops, Forks, Merges, Learns}
use Rattle.atomic_table.proofs.Lists.{at_set, at_snoc}
use Rattle.couch_base.specs.{WindowValue}
use Rattle.pool_workers.specs.{total, times, once_below, WindowView, WindowMessage, window_view, numbers, has_read, has_taken, KeepsRole, Numbered, Covers}
use Rattle.pool_workers.proofs.Sums.{total_set, total_snoc, total_whole, times-append, once_more, none_below}
use Rattle.pool_workers.specs.declared.windows.WindowMessage.TheVariants.{Window, End}

-- the obligation of one view
abbrev Role : WindowView → Type 0
Role v = (v.reads ≡ 0 → v.count ≡ 0) × (v.parts ≡ 0 → (v.taken ≡ []) × (v.reads ≡ 0))

role_set : (views : List WindowView) (port : ℕ) (w : WindowView) → Role w → KeepsRole views → KeepsRole (set views port w)
role_set views port w mine others j u at =
    ⊎_elim (λ (x : (j ≡ port) × (w ≡ u)). subst (λ (y : WindowView). Role y) x.1 mine) (λ (x : (j ≢ port) × (get_elem? views j ≡ some u)). others j u x.1) (at_set views port j w u at)

role_snoc : (views : List WindowView) (w : WindowView) → Role w → KeepsRole views → KeepsRole (views ++ w ∷ [])
role_snoc views w mine others j u at =
    ⊎_elim (λ (x : get_elem? views j ≡ some u). others j u x) (λ (x : w ≡ u). subst (λ (y : WindowView). Role y) x mine) (at_snoc views w u j at)

module _ {S : Type 0} where
  pub numbers-append : (xs ys : List (WindowMessage S)) → numbers (xs ++ ys) ≡ numbers xs ++ numbers ys
  numbers-append [] ys = refl
  numbers-append (Window number page ∷ xs) ys = ap (λ l. number ∷ l) (numbers-append xs ys)
  numbers-append (End ∷ xs) ys = numbers-append xs ys

  times-items : (n : ℕ) (xs ys : List (WindowMessage S)) → times n (numbers (xs ++ ys)) ≡ times n (numbers xs) + times n (numbers ys)
  times-items n xs ys = ap (times n) (numbers-append xs ys) ∙ times-append n (numbers xs) (numbers ys)

  times-cons : (n : ℕ) (x : WindowMessage S) (xs : List (WindowMessage S)) → times n (numbers (x ∷ xs)) ≡ times n (numbers (x ∷ [])) + times n (numbers xs)
  times-cons n x xs = times-items n (x ∷ []) xs

  -- the reader sends the number that is its count
  pub reads_next : (n port : ℕ) (v : WindowView) (number : ℕ) (page : WindowValue) → v.reads ≡ 1 → v.count ≡ number → 0 < v.parts → Pushes (Numbered {S = S}) n port v (Window number page) (λ w. w ≡ has_read {S = S} v (Window number page))
  reads_next n port v number page reader is_next part items views room b at =
      let x : WindowMessage S = Window number page in
      let w : WindowView = has_read v x in
      let whole : total (λ (u : WindowView). u.count) views ≡ v.count =
      total_whole (λ (u : WindowView). u.reads) (λ (u : WindowView). u.count) views port v (λ p u e none. (b.3 p u e).0 none) at (b.1 ∙ sym reader) in
      let c = total_set (λ (u : WindowView). u.count) views port v w at in
      let now : total (λ (u : WindowView). u.count) (set views port w) ≡ v.count + 1 = omega arith in (
        w,
        (
          (let s = total_set (λ (u : WindowView). u.parts) views port v w at in let p = b.0 in omega arith),
          (let s = total_set (λ (u : WindowView). u.reads) views port v w at in let p = b.1 in omega arith),
          (λ k.
              let s = total_set (λ (u : WindowView). times k u.taken) views port v w at in
              let p = b.2 k in
              let was : once_below k (total (λ (u : WindowView). u.count) views) ≡ once_below k number = ap (once_below k) (whole ∙ is_next) in
              let is : once_below k (total (λ (u : WindowView). u.count) (set views port w)) ≡ once_below k (number + 1) = ap (once_below k) (now ∙ ap (λ n. n + 1) is_next) in
              omega (arith, once_more k number, times-items k items (x ∷ []))),
          role_set views port w ((λ none. absurd (omega arith)), λ none. absurd (omega arith)) b.3,
        ),
        refl,
      )

  -- the caller sends the end
  pub tells_end : (n port : ℕ) (v : WindowView) → 0 < v.parts → Pushes (Numbered {S = S}) n port v End (λ w. w ≡ has_read {S = S} v End)
  tells_end n port v part items views room b at =
      let x : WindowMessage S = End in
      let w : WindowView = has_read v x in (
        w,
        (
          (let s = total_set (λ (u : WindowView). u.parts) views port v w at in let p = b.0 in omega arith),
          (let s = total_set (λ (u : WindowView). u.reads) views port v w at in let p = b.1 in omega arith),
          (λ k.
              let s = total_set (λ (u : WindowView). times k u.taken) views port v w at in
              let c = total_set (λ (u : WindowView). u.count) views port v w at in
              let p = b.2 k in
              let is : once_below k (total (λ (u : WindowView). u.count) (set views port w)) ≡ once_below k (total (λ (u : WindowView). u.count) views) = ap (once_below k) (omega arith) in
              omega (arith, times-items k items (x ∷ []))),
          role_set views port w ((λ none. let r = (b.3 port v at).0 none in omega arith), λ none. absurd (omega arith)) b.3,
        ),
        refl,
      )

  pub takes : (port : ℕ) (v : WindowView) → 0 < v.parts → Pops (Numbered {S = S}) port v (λ x w. w ≡ has_taken {S = S} v x)
  takes port v part x items views b at =
      let w : WindowView = has_taken v x in (
        w,
        (
          (let s = total_set (λ (u : WindowView). u.parts) views port v w at in let p = b.0 in omega arith),
          (let s = total_set (λ (u : WindowView). u.reads) views port v w at in let p = b.1 in omega arith),
          (λ k.
              let s = total_set (λ (u : WindowView). times k u.taken) views port v w at in
              let c = total_set (λ (u : WindowView). u.count) views port v w at in
              let p = b.2 k in
              let is : once_below k (total (λ (u : WindowView). u.count) (set views port w)) ≡ once_below k (total (λ (u : WindowView). u.count) views) = ap (once_below k) (omega arith) in
              omega (arith, times-append k v.taken (numbers (x ∷ [])), times-cons k x items)),
          role_set views port w ((b.3 port v at).0, λ none. absurd (omega arith)) b.3,
        ),
        refl,
      )

  pub forks : (port : ℕ) (v : WindowView) → 1 < v.parts → Forks (Numbered {S = S}) port v (window_view (v.parts - 1) v.reads v.count v.taken) (window_view 1 0 0 [])
  forks port v part items views b at =
      let l : WindowView = window_view (v.parts - 1) v.reads v.count v.taken in
      let r : WindowView = window_view 1 0 0 [] in
      let vs : List WindowView = set views port l in (
        (let s = total_set (λ (u : WindowView). u.parts) views port v l at in let t = total_snoc (λ (u : WindowView). u.parts) vs r in let p = b.0 in omega arith),
        (let s = total_set (λ (u : WindowView). u.reads) views port v l at in let t = total_snoc (λ (u : WindowView). u.reads) vs r in let p = b.1 in omega arith),
        (λ k.
            let s = total_set (λ (u : WindowView). times k u.taken) views port v l at in
            let s' = total_snoc (λ (u : WindowView). times k u.taken) vs r in
            let c = total_set (λ (u : WindowView). u.count) views port v l at in
            let c' = total_snoc (λ (u : WindowView). u.count) vs r in
            let p = b.2 k in
            let is : once_below k (total (λ (u : WindowView). u.count) (vs ++ r ∷ [])) ≡ once_below k (total (λ (u : WindowView). u.count) views) = ap (once_below k) (omega arith) in
            omega arith),
        role_snoc vs r ((λ none. refl), λ none. absurd (omega arith)) (role_set views port l ((b.3 port v at).0, λ none. absurd (omega arith)) b.3),
      )

  pub merges : (port : ℕ) (v : WindowView) (other : ℕ) (u : WindowView) → 0 < v.parts
      → Merges (Numbered {S = S}) port v other u (window_view (v.parts + u.parts) (v.reads + u.reads) (v.count + u.count) (v.taken ++ u.taken)) (window_view 0 0 0 [])
  merges port v other u part items views b at two at' =
      let both : WindowView = window_view (v.parts + u.parts) (v.reads + u.reads) (v.count + u.count) (v.taken ++ u.taken) in
      let spent : WindowView = window_view 0 0 0 [] in
      let vs : List WindowView = set views port both in
      let was : get_elem? views other ≡ some u = ⊎_elim (λ (x : (other ≡ port) × (both ≡ u)). absurd (two x.0)) (λ (x : (other ≢ port) × (get_elem? views other ≡ some u)). x.1) (at_set views port other both u at') in (
        (let s = total_set (λ (y : WindowView). y.parts) views port v both at in let t = total_set (λ (y : WindowView). y.parts) vs other u spent at' in let p = b.0 in omega arith),
        (let s = total_set (λ (y : WindowView). y.reads) views port v both at in let t = total_set (λ (y : WindowView). y.reads) vs other u spent at' in let p = b.1 in omega arith),
        (λ k.
            let s = total_set (λ (y : WindowView). times k y.taken) views port v both at in
            let s' = total_set (λ (y : WindowView). times k y.taken) vs other u spent at' in
            let c = total_set (λ (y : WindowView). y.count) views port v both at in
            let c' = total_set (λ (y : WindowView). y.count) vs other u spent at' in
            let p = b.2 k in
            let is : once_below k (total (λ (y : WindowView). y.count) (set vs other spent)) ≡ once_below k (total (λ (y : WindowView). y.count) views) = ap (once_below k) (omega arith) in
            omega (arith, times-append k v.taken u.taken)),
        role_set vs other spent ((λ none. refl), λ none. (refl, refl))
            (role_set views port both ((λ none. let a = (b.3 port v at).0 (omega arith) in let c = (b.3 other u was).0 (omega arith) in omega arith), λ none. absurd (omega arith)) b.3),
      )

  pub learns : (port : ℕ) (v : WindowView) → v.parts ≡ 1024 → Learns (Numbered {S = S}) port v (Covers {S = S} v)
  learns port v all items views b at k =
      let parts : total (λ (u : WindowView). u.parts) views ≡ v.parts = b.0 ∙ sym all in
      let s = total_whole (λ (u : WindowView). u.parts) (λ (u : WindowView). times k u.taken) views port v (λ p u e none. ap (times k) ((b.3 p u e).1 none).0) at parts in
      let c : total (λ (u : WindowView). u.count) views ≡ v.count =
      total_whole (λ (u : WindowView). u.parts) (λ (u : WindowView). u.count) views port v (λ p u e none. (b.3 p u e).0 (((b.3 p u e).1 none).1)) at parts in
      let is : once_below k (total (λ (u : WindowView). u.count) views) ≡ once_below k v.count = ap (once_below k) c in
      let p = b.2 k in
      omega arith

pub windows_begin : (S : Type 0) → Numbered {S = S} [] (window_view 1024 1 0 [] ∷ [])
windows_begin S = (refl, refl, (λ x. sym (none_below x)), role_snoc [] (window_view 1024 1 0 []) ((λ none. refl), λ none. absurd (omega arith)) (λ j u at. absurd (some-ne-none u (sym at))))
