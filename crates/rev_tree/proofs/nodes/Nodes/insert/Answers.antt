use Rattle.proof_prelude.proofs.{◌≡◌, slice_get, sym, subst}
use Rattle.rev_tree.specs.{first_of, leaves, revs_in, tree_of}
use Rattle.rev_tree.proofs.nodes.Nodes.insert.Goals as goal

pub returns-clause-best : goal.returns-clause-best
returns-clause-best c =
    subst (λ l. slice_get (revs_in l) c.put-best.result ≡ first_of (leaves (tree_of l))) (sym c.give_back.ensures) c.put-best.ensures.best
