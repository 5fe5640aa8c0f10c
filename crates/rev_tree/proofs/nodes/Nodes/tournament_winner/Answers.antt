use Rattle.proof_prelude.proofs.{◌≡◌, ℕ, List, Option, Some, None, IfSome, slice_get, subst}
use Rattle.rev_core.specs.{RevId}
use Rattle.rev_tree.specs.{IsBestLeaf, IsLinked, NodeValue, first_of, leaves, revs_in, tree_of}
use Rattle.rev_tree.proofs.{best_wins}
use Rattle.rev_tree.proofs.nodes.Nodes.tournament_winner.Goals as goal

-- the best leaf, if one is found, is the winner
wins : (nodes : List NodeValue) → IsLinked nodes → (o : Option ℕ) → IfSome o (λ p. IsBestLeaf nodes p) → IfSome o (λ p. (r : RevId) → first_of (leaves (tree_of nodes)) ≡ Some r → slice_get (revs_in nodes) p ≡ Some r)
wins nodes linked None h = tt
wins nodes linked (Some p) h = best_wins nodes linked p h

pub returns-clause-first : goal.returns-clause-first
returns-clause-first c =
    let items = c.self.inside.list.items in
    let best = subst (λ (l : List NodeValue). IfSome c.first_leaf.result (λ p. IsBestLeaf l p)) c.deref.ensures.value c.first_leaf.ensures.first in
    subst (λ v. IfSome c.first_leaf.result (λ p. (r : RevId) → first_of (leaves (tree_of v.items)) ≡ Some r → slice_get (revs_in v.items) p ≡ Some r)) c.self.view_is
    (wins items c.self.invariant.linked c.first_leaf.result best)
