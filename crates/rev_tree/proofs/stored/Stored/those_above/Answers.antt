use Rattle.proof_prelude.proofs.{◌≡◌, IfOk, filter, sym, ap, ◌∙◌, subst}
use Rattle.rev_tree.specs.{Block, held_in, is_above_one, items_in, tree_of}
use Rattle.rev_tree.proofs.stored.Stored.those_above.Goals as goal

pub returns-in-Many : goal.returns-in-Many
returns-in-Many c =
    subst (λ l. IfOk c.those_above-in-Many.result (λ v. v.items ≡ filter (is_above_one (tree_of l) c.args.revs.now) c.args.leaves.now))
    (ap (λ (b : Block). b.nodes.items) c.deref-in-Many.ensures ∙ sym (ap (λ h. items_in (held_in h)) c.in-Many.is) ∙ c.held.ensures.items) c.those_above-in-Many.ensures
