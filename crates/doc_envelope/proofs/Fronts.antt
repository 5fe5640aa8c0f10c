-- Inductions over the runs of a document that is not stored completely.
use Rattle.proof_prelude.proofs.{◌≡◌, ℕ, ◌≤◌, List, ◌++◌, length, refl, sym, ap, ◌∙◌, append_assoc, length-append, arith, Option, Some, None}
use Rattle.doc_envelope.specs.{Front, IsRun, start, run, next}

module _ (IsStart : List ℕ → List ℕ → Type 0) where
  -- a property of all documents that begin alike
  pub runs_same : {A : Type 0} (g : List ℕ → A) → ((s S r t : List ℕ) → IsStart s S → IsRun r → g (s ++ (r ++ t)) ≡ g (s ++ t))
      → (f s F S t : List ℕ) → Front IsStart f s F S → g (f ++ t) ≡ g (s ++ t)
  runs_same g step f s F S t (start i) = refl
  runs_same g step x s X S t (run {f} {F} p i r h) = ap g (append_assoc f r t) ∙ runs_same g step f s F S (r ++ t) p ∙ step s S r t i h
  runs_same g step x y X Y t (next {f} {s} {F} {S} p u d i) =
      ap g (append_assoc f u t) ∙ runs_same g step f s F S (u ++ t) p ∙ sym (ap g (append_assoc s u t))

  -- a property of the output
  pub runs_output : {A : Type 0} (g : List ℕ → A) → ((s S r t : List ℕ) → IsStart s S → IsRun r → g (S ++ (r ++ t)) ≡ g (S ++ t))
      → (f s F S t : List ℕ) → Front IsStart f s F S → g (F ++ t) ≡ g (S ++ t)
  runs_output g step f s F S t (start i) = refl
  runs_output g step x s X S t (run {f} {F} p i r h) = ap g (append_assoc F r t) ∙ runs_output g step f s F S (r ++ t) p ∙ step s S r t i h
  runs_output g step x y X Y t (next {f} {s} {F} {S} p u d i) =
      ap g (append_assoc F d t) ∙ runs_output g step f s F S (d ++ t) p ∙ sym (ap g (append_assoc S d t))

  -- the output for the complete document
  pub runs_some : (g : List ℕ → Option (List ℕ)) → ((s S r t e : List ℕ) → IsStart s S → IsRun r → g (s ++ t) ≡ Some (S ++ e) → g (s ++ (r ++ t)) ≡ Some (S ++ (r ++ e)))
      → (f s F S t e : List ℕ) → Front IsStart f s F S → g (s ++ t) ≡ Some (S ++ e) → g (f ++ t) ≡ Some (F ++ e)
  runs_some g step f s F S t e (start i) h = h
  runs_some g step x s X S t e (run {f} {F} p i r k) h =
      ap g (append_assoc f r t) ∙ runs_some g step f s F S (r ++ t) (r ++ e) p (step s S r t e i k h) ∙ sym (ap Some (append_assoc F r e))
  runs_some g step x y X Y t e (next {f} {s} {F} {S} p u d i) h =
      ap g (append_assoc f u t) ∙ runs_some g step f s F S (u ++ t) (d ++ e) p (sym (ap g (append_assoc s u t)) ∙ h ∙ ap Some (append_assoc S d e))
      ∙ sym (ap Some (append_assoc F d e))

  -- no output
  pub runs_none : (g : List ℕ → Option (List ℕ)) → ((s S r t : List ℕ) → IsStart s S → IsRun r → g (s ++ t) ≡ None → g (s ++ (r ++ t)) ≡ None)
      → (f s F S t : List ℕ) → Front IsStart f s F S → g (s ++ t) ≡ None → g (f ++ t) ≡ None
  runs_none g step f s F S t (start i) h = h
  runs_none g step x s X S t (run {f} {F} p i r k) h = ap g (append_assoc f r t) ∙ runs_none g step f s F S (r ++ t) p (step s S r t i k h)
  runs_none g step x y X Y t (next {f} {s} {F} {S} p u d i) h = ap g (append_assoc f u t) ∙ runs_none g step f s F S (u ++ t) p (sym (ap g (append_assoc s u t)) ∙ h)

  -- both texts are as long as a text in which a run may begin
  pub runs_long : (n : ℕ) → ((s S : List ℕ) → IsStart s S → n ≤ length s) → (f s F S : List ℕ) → Front IsStart f s F S → (n ≤ length s) × (n ≤ length f)
  runs_long n long f s F S (start i) = (long s S i, long s S i)
  runs_long n long x s X S (run {f} {F} p i r h) = let k = runs_long n long f s F S p in let a = length-append f r in let k1 = k.1 in (k.0, omega (arith, a, k1))
  runs_long n long x y X Y (next {f} {s} {F} {S} p t d i) =
      let k = runs_long n long f s F S p in
      let k0 = k.0 in
      let k1 = k.1 in
      let a = length-append f t in
      let b = length-append s t in
      (omega (arith, b, k0), omega (arith, a, k1))
