use Rattle.proof_prelude.proofs.{◌≡◌, ◌&&◌, ℕ, true, false, nat_eq, refl, ap, sym, ◌∙◌, eq_by_cmp, pointwise, eq-eqb, eqb-true}
use Rattle.rev_core.specs.{rev_cmp, rev_eq_is}
use Rattle.rev_core.proofs.rev.RevPartialEq.eq.Goals as goal

differ : (m n : ℕ) → (m ≡ n → ⊥) → nat_eq m n ≡ false
differ m n h = elim (nat_eq m n) as (λ t. nat_eq m n ≡ t → t ≡ false) [ true ↦ λ e. absurd (h (eqb-true m n e)) | false ↦ λ _. refl ] refl

pub returns-then-self-other : goal.returns-then-self-other
returns-then-self-other c =
    let a = c.self.inside in
    let b = c.other.inside in
    ap (λ t. t && pointwise nat_eq a.sig b.sig) (sym (differ a.generation b.generation c.if-self-other.true))
    ∙ rev_eq_is (record { generation = a.generation; sig = a.sig }) (record { generation = b.generation; sig = b.sig })
    ∙ (λ i. eq_by_cmp rev_cmp (c.self.view_is i) (c.other.view_is i))

pub returns : goal.returns
returns c =
    let a = c.self.inside in
    let b = c.other.inside in
    c.eq.ensures
    ∙ ap (λ t. t && pointwise nat_eq a.sig b.sig) (sym (eq-eqb a.generation b.generation c.if-self-other.false))
    ∙ rev_eq_is (record { generation = a.generation; sig = a.sig }) (record { generation = b.generation; sig = b.sig })
    ∙ (λ i. eq_by_cmp rev_cmp (c.self.view_is i) (c.other.view_is i))
