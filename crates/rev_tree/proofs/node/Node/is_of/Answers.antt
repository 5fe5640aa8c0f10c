use Rattle.proof_prelude.proofs.{◌≡◌, ◌&&◌, sym, ap, ◌∙◌, nat_eq, pointwise, eq_by_cmp, eq-eqb}
use Rattle.rev_core.specs.{rev_cmp, rev_eq_is}
use Rattle.rev_tree.proofs.node.Node.is_of.Goals as goal

pub returns : goal.returns
returns c =
    let r = c.args.rev.now in
    let s = c.self.inside.rev in
    let same : r.generation ≡ s.generation = sym c.generation.ensures.part ∙ c.if-generation.false ∙ c.generation-2.ensures.part in
    c.is_same.ensures
    ∙ (λ i. pointwise nat_eq (c.sig_bytes.ensures i) (c.sig_bytes-2.ensures i))
    ∙ ap (λ b. b && pointwise nat_eq r.sig s.sig) (sym (eq-eqb _ _ same))
    ∙ rev_eq_is r s
    ∙ ap (λ v. eq_by_cmp rev_cmp r v.rev) c.self.view_is
