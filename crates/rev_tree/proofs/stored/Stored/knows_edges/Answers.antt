use Rattle.proof_prelude.proofs.{◌≡◌, IfOk, sym, ap, ◌∙◌, subst, list_all}
use Rattle.rev_core.specs.{edges_of}
use Rattle.rev_tree.specs.{Block, has_edge, held_in, items_in, tree_of}
use Rattle.rev_tree.proofs.stored.Stored.knows_edges.Goals as goal

pub returns-in-Many-clause-edges : goal.returns-in-Many-clause-edges
returns-in-Many-clause-edges c =
    subst (λ l. IfOk c.knows_edges-in-Many.result (λ b. b ≡ list_all (has_edge (tree_of l)) (edges_of c.args.revs.now)))
    (ap (λ (b : Block). b.nodes.items) c.deref-in-Many.ensures ∙ sym (ap (λ h. items_in (held_in h)) c.in-Many.is) ∙ c.held.ensures.items) c.knows_edges-in-Many.ensures.edges
