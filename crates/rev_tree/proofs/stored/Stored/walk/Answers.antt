use Rattle.proof_prelude.proofs.{◌≡◌, IfOk, sym, ap, ◌∙◌, subst}
use Rattle.rev_tree.specs.{Block, ancestors_at, held_in, items_in}
use Rattle.rev_tree.proofs.stored.Stored.walk.Goals as goal

pub returns-in-Many : goal.returns-in-Many
returns-in-Many c =
    subst (λ l. IfOk c.walk-in-Many.result (λ v. v.items ≡ ancestors_at l c.args.start))
    (ap (λ (b : Block). b.nodes.items) c.deref-in-Many.ensures ∙ sym (ap (λ h. items_in (held_in h)) c.in-Many.is) ∙ c.held.ensures.items) c.walk-in-Many.ensures
