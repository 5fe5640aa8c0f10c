use Rattle.proof_prelude.proofs.{sym, ◌∙◌, nat_cmp}
use Rattle.rev_tree.proofs.{front_first, bytes_of_sig, behind_ties}
use Rattle.rev_tree.proofs.leaf.Leaf.order.Goals as goal

pub returns-then-self-other-3 : goal.returns-then-self-other-3
returns-then-self-other-3 c =
    let a = c.args.self.now in
    let b = c.args.other.now in
    let r = a.rev.now in
    let s = b.rev.now in
    c.cmp-then-self-other-3.ensures
    ∙ (λ i. nat_cmp (b.is_front i) (a.is_front i))
    ∙ front_first 8 s.sig r.sig (bytes_of_sig s.sig b.is_rev.sig) (bytes_of_sig r.sig a.is_rev.sig) (λ same. c.if-self-other-3.true (a.is_front ∙ sym same ∙ sym b.is_front))
    ∙ behind_ties a.deleted b.deleted s.generation r.generation _ c.if-self-other.false (sym b.is_generation ∙ sym c.if-self-other-2.false ∙ a.is_generation)
