-- The last element of a list is moved to an index by swapping neighbours.
use Rattle.proof_prelude.proofs.{◌≡◌, ℕ, ◌+◌, ◌-◌, ◌<◌, ◌≤◌, List, [], ◌∷◌, ◌++◌, length, take, drop, get_or, refl, sym, ap, ◌∙◌, arith, append_assoc, set-append_seam, get_or-append_seam, take_more, drop_more, drop_all, set-append_right, swap, slice_set, take_all, length-append, length-take-le, get_or-append-add}

module _ {X : Type 0} where
  exchanged : (d : X) (a : List X) (y x : X) (b : List X)
      → slice_set (slice_set (a ++ y ∷ x ∷ b) (length a) (get_or (a ++ y ∷ x ∷ b) (length a + 1) d)) (length a + 1) (get_or (a ++ y ∷ x ∷ b) (length a) d) ≡ a ++ x ∷ y ∷ b
  exchanged d a y x b =
      let l = a ++ y ∷ x ∷ b in
      let n = length a in
      let behind : get_or l (n + 1) d ≡ x = get_or-append-add a (y ∷ x ∷ b) 1 d in
      let here : get_or l n d ≡ y = get_or-append_seam a y (x ∷ b) d in
      let first : slice_set l n x ≡ a ++ x ∷ x ∷ b = set-append_seam a y (x ∷ b) x in
      let one : (n + 1) - n ≡ 1 = omega arith in
      ap (λ v. slice_set (slice_set l n v) (n + 1) (get_or l n d)) behind ∙ ap (λ v. slice_set (slice_set l n x) (n + 1) v) here ∙ ap (λ m. slice_set m (n + 1) y) first
      ∙ set-append_right a (x ∷ x ∷ b) n (n + 1) y refl (omega arith) ∙ ap (λ k. a ++ slice_set (x ∷ x ∷ b) k y) one

  adjacent : (a : List X) (y x : X) (b : List X) → swap (a ++ y ∷ x ∷ b) (length a) (length a + 1) ≡ a ++ x ∷ y ∷ b
  adjacent [] y x b = exchanged y [] y x b
  adjacent (c ∷ a) y x b = exchanged c (c ∷ a) y x b

  pub moved_down : (front : List X) (last : X) (i : ℕ) → i < length front → swap (take (i + 1) front ++ last ∷ drop (i + 1) front) i (i + 1) ≡ take i front ++ last ∷ drop i front
  moved_down front last i within =
      let y = get_or front i last in
      let a = take i front in
      let b = drop (i + 1) front in
      let size : length a ≡ i = length-take-le i front (omega arith) in
      let shape : take (i + 1) front ++ last ∷ b ≡ a ++ y ∷ last ∷ b = ap (λ l. l ++ last ∷ b) (take_more front i last within) ∙ append_assoc a (y ∷ []) (last ∷ b) in
      ap (λ l. swap l i (i + 1)) shape ∙ ap (λ n. swap (a ++ y ∷ last ∷ b) n (n + 1)) (sym size) ∙ adjacent a y last b
      ∙ ap (λ l. a ++ last ∷ l) (sym (drop_more front i last within))

  -- before the first swap
  pub stays_last : (all front : List X) (last : X) (i : ℕ) → length all ≡ i + 1 → all ≡ front ++ last ∷ [] → all ≡ take i front ++ last ∷ drop i front
  stays_last all front last i size is =
      let long : length front ≤ i = omega (arith, ap length is, length-append front (last ∷ []), size) in
      is ∙ ap (λ l. l ++ last ∷ []) (sym (take_all i front long)) ∙ ap (λ l. take i front ++ last ∷ l) (sym (drop_all i front long))
