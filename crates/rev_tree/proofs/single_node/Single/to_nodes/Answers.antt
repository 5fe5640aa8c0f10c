use Rattle.proof_prelude.proofs.{◌∷◌, [], sym, subst}
use Rattle.rev_tree.specs.{IsLinked, NodeValue}
use Rattle.rev_tree.proofs.{IsLinked-single}
use Rattle.rev_tree.proofs.single_node.Single.to_nodes.Goals as goal

pub of_one-requires : goal.of_one-requires
of_one-requires c = subst (λ (n : NodeValue). IsLinked (n ∷ [])) (sym c.in_ok-node.ensures) (IsLinked-single c.self.inside.node c.self.invariant)
