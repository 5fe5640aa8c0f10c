-- ASCII tests of sixteen bytes at a time; the last vector may overlap the previous one.
use Rattle.proof_prelude.proofs.{◌≡◌, ℕ, [], ◌∷◌, ◌++◌, ◌+◌, ◌-◌, ◌<◌, ◌≤◌, ◌⊎◌, inl, inr, List, length, take, get_or, ap, subst, ◌∙◌, arith, IsAscii, cases_order, get_or_past, get_or-chunk, get_or-take}
use lib.Lanes.{chunk}

module _ (xs : List ℕ) (i s : ℕ) (over : s ≤ i) (ends : s + 16 ≡ length xs) (front : IsAscii (take i xs)) (back : IsAscii (chunk s 16 xs)) where
  in_front : (m : ℕ) → m < i → get_or xs m 0 < 128
  in_front m lt = subst (λ n. n < 128) (get_or-take i xs m 0 lt) (front m)

  in_back : (m : ℕ) → i ≤ m → m < length xs → get_or xs m 0 < 128
  in_back m le lt =
      let k = m - s in
      let on : s + k ≡ m = omega arith in
      subst (λ n. n < 128) (get_or-chunk s 16 xs k 0 (omega arith) ∙ ap (λ j. get_or xs j 0) on) (back k)

  past : (m : ℕ) → length xs ≤ m → get_or xs m 0 < 128
  past m le = let none : get_or xs m 0 ≡ 0 = get_or_past xs m 0 le in omega (arith, none)

  behind : (m : ℕ) → i ≤ m → (m ≡ length xs) ⊎ ((m < length xs) ⊎ (length xs < m)) → get_or xs m 0 < 128
  behind m le (inl e) = past m (omega arith)
  behind m le (inr (inl l)) = in_back m le l
  behind m le (inr (inr g)) = past m (omega arith)

  by : (m : ℕ) → (m ≡ i) ⊎ ((m < i) ⊎ (i < m)) → get_or xs m 0 < 128
  by m (inl e) = behind m (omega arith) (cases_order m (length xs))
  by m (inr (inl l)) = in_front m l
  by m (inr (inr g)) = behind m (omega arith) (cases_order m (length xs))

  pub ascii_joined : IsAscii xs
  ascii_joined m = by m (cases_order m i)
