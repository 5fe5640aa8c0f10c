-- A text is split in a unique way at the first such byte, and at the last.
use Rattle.proof_prelude.proofs.{◌≡◌, ℕ, true, List, [], ◌∷◌, ◌++◌, refl, sym, ap, ap₂, ◌∙◌, arith, Option, Some, None, IfSome, IfNone, MatchOption, and_parts, nat_tests}
use Rattle.output_parser.specs.{lacks}

pub none_of : {T : Type 0} (o : Option T) (P : Type 0) (Q : T → Type 0) → MatchOption o P Q → IfNone o P
none_of None P Q h = h
none_of (Some x) P Q h = tt

pub some_of : {T : Type 0} (o : Option T) (P : Type 0) (Q : T → Type 0) → MatchOption o P Q → IfSome o Q
some_of None P Q h = tt
some_of (Some x) P Q h = h

not_lacking : (b : ℕ) (w : List ℕ) → lacks b (b ∷ w) ≡ true → ⊥
not_lacking b w h = grind (arith, nat_tests)

pub lacks_not : (b : ℕ) (a w : List ℕ) → lacks b (a ++ b ∷ w) ≡ true → ⊥
lacks_not b [] w h = not_lacking b w h
lacks_not b (c ∷ a) w h = lacks_not b a w (and_parts _ _ h).1

pub first_unique : (b : ℕ) (w v x y : List ℕ) → lacks b w ≡ true → lacks b v ≡ true → w ++ b ∷ x ≡ v ++ b ∷ y → (w ≡ v) × (x ≡ y)
first_unique b [] [] x y h k e = (refl, cc)
first_unique b [] (c ∷ v) x y h k e = let s : b ≡ c = cc in absurd (grind (arith, nat_tests))
first_unique b (c ∷ w) [] x y h k e = let s : c ≡ b = cc in absurd (grind (arith, nat_tests))
first_unique b (c ∷ w) (d ∷ v) x y h k e =
    let s : c ≡ d = cc in
    let t : w ++ b ∷ x ≡ v ++ b ∷ y = cc in
    let u = first_unique b w v x y (and_parts _ _ h).1 (and_parts _ _ k).1 t in
    (ap₂ (λ a l. a ∷ l) s u.0, u.1)

pub last_unique : (b : ℕ) (w v x y : List ℕ) → lacks b x ≡ true → lacks b y ≡ true → w ++ b ∷ x ≡ v ++ b ∷ y → (w ≡ v) × (x ≡ y)
last_unique b [] [] x y h k e = (refl, cc)
last_unique b [] (c ∷ v) x y h k e =
    let t : x ≡ v ++ b ∷ y = cc in
    absurd (lacks_not b v y (ap (lacks b) (sym t) ∙ h))
last_unique b (c ∷ w) [] x y h k e =
    let t : w ++ b ∷ x ≡ y = cc in
    absurd (lacks_not b w x (ap (lacks b) t ∙ k))
last_unique b (c ∷ w) (d ∷ v) x y h k e =
    let s : c ≡ d = cc in
    let t : w ++ b ∷ x ≡ v ++ b ∷ y = cc in
    let u = last_unique b w v x y h k t in
    (ap₂ (λ a l. a ∷ l) s u.0, u.1)
