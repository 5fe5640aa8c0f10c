use Rattle.proof_prelude.proofs.{subst}
use Rattle.rev_core.specs.{edges_of}
use Rattle.rev_tree.specs.{IsSingle}
use Rattle.rev_tree.proofs.{agrees-single, edges-single}
use Rattle.rev_tree.proofs.single_node.Single.knows_edges.Goals as goal

pub returns-clause-edges : goal.returns-clause-edges
returns-clause-edges c = edges-single c.args.self.now (subst IsSingle c.self.view_is c.self.invariant) c.args.revs.now c.requires.some

pub returns-clause-none : goal.returns-clause-none
returns-clause-none c = agrees-single c.args.self.now (subst IsSingle c.self.view_is c.self.invariant) (edges_of c.args.revs.now)
