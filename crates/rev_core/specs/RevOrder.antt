-- Lemmas: the order of revisions is total, and only equal revisions compare as equal.
use Rattle.std.specs.Prelude.{◌≡◌, ℕ, Bool, true, false, ◌&&◌, List, [], ◌∷◌, ◌++◌, nat_eq, refl}
use Rattle.std.proofs.Common.{ap, sym, ◌∙◌, subst, T}
use Rattle.std.specs.declared.cmp.Ordering.{Ordering}
use Rattle.std.specs.declared.cmp.Ordering.TheVariants.{Less, Equal, Greater}
use Rattle.std.specs.Ordering.{ordering_then, eq_by_cmp, is_eq}
use Rattle.std.specs.Cmp.{IsTotalOrder, tied_itself, nat_cmp_total, on_total, then_total}
use Rattle.std.specs.Cmp.Lexicographic.{nat_list_cmp_total, pointwise, bytes_decides}
use Rattle.std.specs.FinMap.{IsAntisymmetric, nat_cmp-IsAntisymmetric, slice_cmp-IsAntisymmetric}
use Rattle.std.specs.Hash as fed
use Rattle.std.specs.Coded.{Coded, code_by, coded×, coded_ℕ, coded_list}
use Rattle.std.proofs.lemmas.Bool.{and_parts, eqb-true, eq-eqb}
use Rattle.rev_core.specs.Rev.{RevId, rev_cmp}

pub rev_cmp_total : IsTotalOrder rev_cmp
rev_cmp_total =
    then_total (on_total (λ (r : RevId). r.generation) nat_cmp_total)
    (on_total (λ (r : RevId). r.sig) nat_list_cmp_total)

both_equal : (o p : Ordering) → ordering_then o p ≡ Equal → (o ≡ Equal) × (p ≡ Equal)
both_equal Less p e = absurd (subst (λ r. T (is_eq r)) (sym e) tt)
both_equal Equal p e = (refl, e)
both_equal Greater p e = absurd (subst (λ r. T (is_eq r)) (sym e) tt)

same_parts : (a b : RevId) → a.generation ≡ b.generation → a.sig ≡ b.sig → a ≡ b
same_parts a b g s = λ i. record { generation = g i; sig = s i }

pub rev_cmp_exact : IsAntisymmetric rev_cmp
rev_cmp_exact a b e =
    let parts = both_equal _ _ e in
    same_parts a b (nat_cmp-IsAntisymmetric _ _ parts.0) (slice_cmp-IsAntisymmetric nat_cmp-IsAntisymmetric _ _ parts.1)

is_equal : (o : Ordering) → is_eq o ≡ true → o ≡ Equal
is_equal Less e = absurd (subst T (sym e) tt)
is_equal Equal e = refl
is_equal Greater e = absurd (subst T (sym e) tt)

-- Two revisions that compare as equal are equal.
pub rev_tie_is : (a b : RevId) → eq_by_cmp rev_cmp a b ≡ true → a ≡ b
rev_tie_is a b e = rev_cmp_exact a b (is_equal _ e)

pub rev_tie_self : (a : RevId) → eq_by_cmp rev_cmp a a ≡ true
rev_tie_self a = ap is_eq (tied_itself rev_cmp_total a)

same_tests : (x y : Bool) → (x ≡ true → y ≡ true) → (y ≡ true → x ≡ true) → x ≡ y
same_tests true y f g = sym (f refl)
same_tests false true f g = g refl
same_tests false false f g = refl

-- Two revisions have equal generations and equal signatures exactly if `rev_cmp` compares the revisions as equal.
pub rev_eq_is : (a b : RevId)
    → (nat_eq a.generation b.generation && pointwise nat_eq a.sig b.sig) ≡ eq_by_cmp rev_cmp a b
rev_eq_is a b = same_tests _ _
    (λ e. let parts = and_parts _ _ e in
    subst (λ r. eq_by_cmp rev_cmp a r ≡ true)
    (same_parts a b (eqb-true _ _ parts.0) ((bytes_decides a.sig b.sig).0 parts.1)) (rev_tie_self a))
    (λ e. let s = rev_tie_is a b e in
    subst (λ r. (nat_eq a.generation r.generation && pointwise nat_eq a.sig r.sig) ≡ true) s
    (ap (λ t. t && pointwise nat_eq a.sig a.sig) (eq-eqb a.generation a.generation refl)
    ∙ (bytes_decides a.sig a.sig).1 refl))

-- The bytes of a revision that are hashed: the bytes of its generation, then its signature.
abbrev pub hashed : RevId → List (List ℕ)
hashed r = fed.u32 r.generation ++ r.sig ∷ []

-- Equal revisions have equal hashes.
pub hashed_alike : (a b : RevId) → eq_by_cmp rev_cmp a b ≡ true → hashed a ≡ hashed b
hashed_alike a b e = ap hashed (rev_tie_is a b e)

-- A revision encoded as a pair of its generation and its signature.
abbrev pub coded_rev : Coded RevId
coded_rev =
    code_by (ℕ × List ℕ) (coded× coded_ℕ (coded_list coded_ℕ)) (λ r. (r.generation, r.sig))
    (λ p. record { generation = p.0; sig = p.1 }) (λ _. refl)
