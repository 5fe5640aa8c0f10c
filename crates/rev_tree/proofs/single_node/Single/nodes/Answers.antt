use Rattle.proof_prelude.proofs.{subst}
use Rattle.rev_tree.specs.{IsSingle}
use Rattle.rev_tree.proofs.{IsLinked-single}
use Rattle.rev_tree.proofs.single_node.Single.nodes.Goals as goal

pub returns-clause-linked : goal.returns-clause-linked
returns-clause-linked c = IsLinked-single c.args.self.now (subst IsSingle c.self.view_is c.self.invariant)
