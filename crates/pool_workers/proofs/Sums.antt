-- Sums over the views of all passes.
use Rattle.proof_prelude.proofs.{◌≡◌, ℕ, zero, suc, ◌+◌, ◌≤◌, ◌==◌, List, [], ◌∷◌, ◌++◌, set, sym, refl, ap, arith, if◌then◌else◌, nat_tests}
use mathlib.Core.Option.{some, some-injective, some-ne-none}
use lib.ListN.{get_elem?}
use Rattle.pool_workers.specs.{total, weigh, times, once_below}

module _ {V : Type 0} where
  -- the sum after one view has changed
  pub total_set : (f : V → ℕ) (views : List V) (port : ℕ) (v w : V) → get_elem? views port ≡ some v → total f (set views port w) + f v ≡ total f views + f w
  total_set f [] port v w e = absurd (some-ne-none v (sym e))
  total_set f (x ∷ xs) zero v w e = let s : f x ≡ f v = ap f (some-injective x v e) in omega arith
  total_set f (x ∷ xs) (suc p) v w e = let s = total_set f xs p v w e in omega (arith, s)

  pub total_snoc : (f : V → ℕ) (views : List V) (w : V) → total f (views ++ w ∷ []) ≡ total f views + f w
  total_snoc f [] w = omega arith
  total_snoc f (x ∷ xs) w = let s = total_snoc f xs w in omega (arith, s)

  pub total_member : (f : V → ℕ) (views : List V) (port : ℕ) (v : V) → get_elem? views port ≡ some v → f v ≤ total f views
  total_member f [] port v e = absurd (some-ne-none v (sym e))
  total_member f (x ∷ xs) zero v e = let s : f x ≡ f v = ap f (some-injective x v e) in omega arith
  total_member f (x ∷ xs) (suc p) v e = let s = total_member f xs p v e in omega (arith, s)

  -- f is 0 for each view for which r is 0
  abbrev pub Follows : (V → ℕ) → (V → ℕ) → List V → Type 0
  Follows r f views = (port : ℕ) (u : V) → get_elem? views port ≡ some u → r u ≡ 0 → f u ≡ 0

  pub total_none : (r f : V → ℕ) (views : List V) → Follows r f views → total r views ≡ 0 → total f views ≡ 0
  total_none r f [] h e = refl
  total_none r f (x ∷ xs) h e =
      let here : f x ≡ 0 = h zero x refl (omega arith) in
      let there : total f xs ≡ 0 = total_none r f xs (λ p u at. h (suc p) u at) (omega arith) in
      omega arith

  -- the view that has all of r has all of f
  pub total_whole : (r f : V → ℕ) (views : List V) (port : ℕ) (v : V) → Follows r f views → get_elem? views port ≡ some v → total r views ≡ r v → total f views ≡ f v
  total_whole r f [] port v h at e = absurd (some-ne-none v (sym at))
  total_whole r f (x ∷ xs) zero v h at e =
      let s : x ≡ v = some-injective x v at in
      let rs : r x ≡ r v = ap r s in
      let fs : f x ≡ f v = ap f s in
      let there : total f xs ≡ 0 = total_none r f xs (λ p u at'. h (suc p) u at') (omega arith) in
      omega arith
  total_whole r f (x ∷ xs) (suc p) v h at e =
      let m : r v ≤ total r xs = total_member r xs p v at in
      let here : f x ≡ 0 = h zero x refl (omega arith) in
      let there : total f xs ≡ f v = total_whole r f xs p v (λ q u at'. h (suc q) u at') at (omega arith) in
      omega arith

pub weigh-append : (h : ℕ → ℕ → ℕ) (xs ys : List (ℕ × ℕ)) → weigh h (xs ++ ys) ≡ weigh h xs + weigh h ys
weigh-append h [] ys = omega arith
weigh-append h (x ∷ xs) ys = let s = weigh-append h xs ys in omega (arith, s)

pub times-append : (n : ℕ) (xs ys : List ℕ) → times n (xs ++ ys) ≡ times n xs + times n ys
times-append n [] ys = omega arith
times-append n (x ∷ xs) ys = let s = times-append n xs ys in omega (arith, s)

pub once_more : (x n : ℕ) → once_below x (n + 1) ≡ once_below x n + (if n == x then 1 else 0)
once_more x n = grind (arith, nat_tests)

pub none_below : (x : ℕ) → once_below x 0 ≡ 0
none_below x = grind (arith, nat_tests)
