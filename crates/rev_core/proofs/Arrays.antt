-- Signatures are ordered as their arrays are.
use Rattle.proof_prelude.proofs.{◌≡◌, ℕ, zero, suc, List, [], ◌∷◌, take, get_or, refl, sym, arith, false≢true, nat_cmp, ordering_then, slice_cmp, nat_cmp-IsAntisymmetric, Ordering, Less, Equal, Greater}
use Rattle.rev_core.specs.{IsStored}

then_first : (o p : Ordering) → (o ≡ Equal → ⊥) → ordering_then o p ≡ o
then_first Less p h = refl
then_first Equal p h = absurd (h refl)
then_first Greater p h = refl

-- if the first bytes differ, they decide the order
pub first_decides : (a b : List ℕ) (m n : ℕ) → IsStored a m → IsStored b n → (get_or a 0 0 ≡ get_or b 0 0 → ⊥) → nat_cmp (get_or a 0 0) (get_or b 0 0) ≡ slice_cmp nat_cmp (take m a) (take n b)
first_decides [] b m n h k differ = absurd (omega (arith, h.size))
first_decides (x ∷ a) [] m n h k differ = absurd (omega (arith, k.size))
first_decides (x ∷ a) (y ∷ b) zero n h k differ = absurd (false≢true h.sig)
first_decides (x ∷ a) (y ∷ b) (suc m) zero h k differ = absurd (false≢true k.sig)
first_decides (x ∷ a) (y ∷ b) (suc m) (suc n) h k differ = sym (then_first (nat_cmp x y) _ (λ e. differ (nat_cmp-IsAntisymmetric x y e)))
