use Rattle.proof_prelude.proofs.{subst}
use Rattle.rev_tree.specs.{IsSingle}
use Rattle.rev_tree.proofs.{IsLinked-single}
use Rattle.rev_tree.proofs.single_node.Single.place_in.Goals as goal

pub returns-then-is_of-clause-linked : goal.returns-then-is_of-clause-linked
returns-then-is_of-clause-linked c = IsLinked-single c.args.self.now (subst IsSingle c.self.view_is c.self.invariant)

pub returns-else-is_of-clause-linked : goal.returns-else-is_of-clause-linked
returns-else-is_of-clause-linked c = IsLinked-single c.args.self.now (subst IsSingle c.self.view_is c.self.invariant)
