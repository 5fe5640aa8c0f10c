use Rattle.rev_tree.proofs.{stored_tree}
use Rattle.rev_tree.proofs.tree.Tree.copy.Goals as goal

pub returns-in_err-stored-clause-tree : goal.returns-in_err-stored-clause-tree
returns-in_err-stored-clause-tree c = stored_tree c.self.inside.stored.items c.self.inside.stored.origins c.self.inside.stored.best c.args.self.now c.self.invariant c.self.view_is

pub returns-clause-tree : goal.returns-clause-tree
returns-clause-tree c = stored_tree c.self.inside.stored.items c.self.inside.stored.origins c.self.inside.stored.best c.args.self.now c.self.invariant c.self.view_is
