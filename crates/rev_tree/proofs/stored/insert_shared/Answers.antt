use Rattle.proof_prelude.proofs.{◌≡◌, slice_get, sym, ap, ◌∙◌, subst}
use Rattle.rev_tree.specs.{Block, first_of, leaves, revs_in, tree_of}
use Rattle.rev_tree.proofs.stored.insert_shared.Goals as goal

pub returns-in-Some-clause-kept : goal.returns-in-Some-clause-kept
returns-in-Some-clause-kept c i r h =
    c.insert.ensures.kept i r (ap (λ (b : Block). slice_get (revs_in b.nodes.items) i) c.in-Some.ensures.value ∙ h)

pub returns-in_ok-shared-in-None-clause-best : goal.returns-in_ok-shared-in-None-clause-best
returns-in_ok-shared-in-None-clause-best c =
    subst (λ (b : Block). slice_get (revs_in b.nodes.items) b.best ≡ first_of (leaves (tree_of b.nodes.items)))
    (sym c.in_ok-shared-in-None.ensures.ok) c.in_ok-insert-in-None.ensures.best
