-- What a worker knows after one more message.
use Rattle.proof_prelude.proofs.{◌≡◌, ℕ, ◌+◌, ◌≤◌, ◌==◌, if◌then◌else◌, List, [], ◌∷◌, ◌++◌, length, refl, ap, ◌∙◌, arith, length-append, map-append, nat_tests}
use Rattle.pool_workers.specs.{weigh, times, once_below, WindowView, WindowMessage, Covers, ParcelView, ParcelMessage, parcel_view, parcels, Accounts, amounts, names}
use Rattle.pool_workers.proofs.Sums.{weigh-append}

pub amounts-append : (xs ys : List (ℕ × ℕ)) → amounts (xs ++ ys) ≡ amounts xs + amounts ys
amounts-append xs ys = weigh-append (λ n a. a) xs ys

-- what a fetcher's pass knows after it has sent a parcel
abbrev pub SentOne : ParcelView → ℕ × ℕ → ParcelView → Type 0
SentOne v p w = (w ≡ parcel_view 1 w.sent []) × (length w.sent ≡ length v.sent + 1) × (amounts w.sent ≡ amounts v.sent + p.1) × (names w.sent ≡ names v.sent ++ p.0 ∷ [])

pub sent_one : (v w : ParcelView) (p : ℕ × ℕ) → v ≡ parcel_view 1 v.sent [] → w ≡ parcel_view v.parts (v.sent ++ p ∷ []) v.got → SentOne v p w
sent_one v w p is e =
    let one : List (ℕ × ℕ) = p ∷ [] in
    let parts : w.parts ≡ 1 = ap (λ (y : ParcelView). y.parts) e ∙ ap (λ (y : ParcelView). y.parts) is in
    let got : w.got ≡ [] = ap (λ (y : ParcelView). y.got) e ∙ ap (λ (y : ParcelView). y.got) is in
    let sent : w.sent ≡ v.sent ++ one = ap (λ (y : ParcelView). y.sent) e in
    let l : length w.sent ≡ length (v.sent ++ one) = ap (length {A = ℕ × ℕ}) sent in
    let a : amounts w.sent ≡ amounts (v.sent ++ one) = ap amounts sent in (
      (λ i. parcel_view (parts i) w.sent (got i)),
      omega (arith, length-append v.sent one),
      omega (arith, amounts-append v.sent one),
      ap names sent ∙ map-append (λ (x : ℕ × ℕ). x.0) v.sent one,
    )

abbrev pub GotOne : ParcelView → ℕ × ℕ → ParcelView → Type 0
GotOne v p w = (w ≡ parcel_view 1 [] w.got) × (length w.got ≡ length v.got + 1) × (amounts w.got ≡ amounts v.got + p.1)

pub got_one : (v w : ParcelView) (p : ℕ × ℕ) → v ≡ parcel_view 1 [] v.got → w ≡ parcel_view v.parts v.sent (v.got ++ p ∷ []) → GotOne v p w
got_one v w p is e =
    let one : List (ℕ × ℕ) = p ∷ [] in
    let parts : w.parts ≡ 1 = ap (λ (y : ParcelView). y.parts) e ∙ ap (λ (y : ParcelView). y.parts) is in
    let sent : w.sent ≡ [] = ap (λ (y : ParcelView). y.sent) e ∙ ap (λ (y : ParcelView). y.sent) is in
    let got : w.got ≡ v.got ++ one = ap (λ (y : ParcelView). y.got) e in
    let l : length w.got ≡ length (v.got ++ one) = ap (length {A = ℕ × ℕ}) got in
    let a : amounts w.got ≡ amounts (v.got ++ one) = ap amounts got in (
      (λ i. parcel_view (parts i) (sent i) w.got),
      omega (arith, length-append v.got one),
      omega (arith, amounts-append v.got one),
    )

-- what a pass knows after it has merged another one
abbrev pub Gathers : ParcelView → ParcelView → ParcelView → Type 0
Gathers v u w =
    (amounts w.sent ≡ amounts v.sent + amounts u.sent)
    × (length w.sent ≡ length v.sent + length u.sent)
    × (names w.sent ≡ names v.sent ++ names u.sent)
    × (amounts w.got ≡ amounts v.got + amounts u.got)
    × (length w.got ≡ length v.got + length u.got)

pub gathers : (v u w : ParcelView) → w ≡ parcel_view (v.parts + u.parts) (v.sent ++ u.sent) (v.got ++ u.got) → Gathers v u w
gathers v u w is =
    let sent : w.sent ≡ v.sent ++ u.sent = ap (λ (y : ParcelView). y.sent) is in
    let got : w.got ≡ v.got ++ u.got = ap (λ (y : ParcelView). y.got) is in (
      ap amounts sent ∙ amounts-append v.sent u.sent,
      ap (length {A = ℕ × ℕ}) sent ∙ length-append v.sent u.sent,
      ap names sent ∙ map-append (λ (x : ℕ × ℕ). x.0) v.sent u.sent,
      ap amounts got ∙ amounts-append v.got u.got,
      ap (length {A = ℕ × ℕ}) got ∙ length-append v.got u.got,
    )

weigh_ones : (xs : List (ℕ × ℕ)) → weigh (λ n a. 1) xs ≡ length xs
weigh_ones [] = refl
weigh_ones (x ∷ xs) = let s = weigh_ones xs in omega (arith, s)

weigh_none : (h : ℕ → ℕ → ℕ) (xs : List (ℕ × ℕ)) → length xs ≡ 0 → weigh h xs ≡ 0
weigh_none h [] e = refl
weigh_none h (x ∷ xs) e = absurd (omega arith)

-- if as many were received as sent, what was received weighs what was sent
pub settles : {S : Type 0} (v : ParcelView) (items : List (ParcelMessage S)) → Accounts v items → length v.sent ≡ length v.got → (h : ℕ → ℕ → ℕ) → weigh h v.sent ≡ weigh h v.got
settles v items know same h =
    let ones = know (λ n a. 1) in
    let none : length (parcels items) ≡ 0 = omega (arith, ones, weigh_ones v.sent, weigh_ones v.got, weigh_ones (parcels items)) in
    let k = know h in
    omega (arith, k, weigh_none h (parcels items) none)

names_times : (k : ℕ) (xs : List (ℕ × ℕ)) → weigh (λ n a. if n == k then 1 else 0) xs ≡ times k (names xs)
names_times k [] = refl
names_times k (x ∷ xs) = let s = names_times k xs in omega (arith, s)

pub below_once : (x n : ℕ) → once_below x n ≤ 1
below_once x n = grind (arith, nat_tests)

-- each window is taken at most once
pub taken_once : {S : Type 0} (v : WindowView) (items : List (WindowMessage S)) → Covers v items → (k : ℕ) → times k v.taken ≤ 1
taken_once v items know k = let c = know k in let b = below_once k v.count in omega (arith, c, b)

-- each parcel is received at most once, if the windows sent are those taken
pub got_once : {S : Type 0} (v : ParcelView) (items : List (ParcelMessage S)) (taken : List ℕ) → Accounts v items → taken ≡ names v.sent → ((k : ℕ) → times k taken ≤ 1) → (k : ℕ) → times k (names v.got) ≤ 1
got_once v items taken know same once k =
    let a = know (λ n x. if n == k then 1 else 0) in
    let s = names_times k v.sent in
    let g = names_times k v.got in
    let o = once k in
    let e : times k taken ≡ times k (names v.sent) = ap (times k) same in
    omega (arith, a, s, g, o, e)
