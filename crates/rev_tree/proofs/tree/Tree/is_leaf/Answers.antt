use Rattle.proof_prelude.proofs.{Some, None, not, sym, ap, ◌∙◌, option_copied}
use Rattle.rev_tree.proofs.{shows, leaf_is}
use Rattle.rev_tree.proofs.tree.Tree.is_leaf.Goals as goal

pub returns : goal.returns
returns c = ap not c.has_child.ensures ∙ sym (leaf_is c.self.inside.stored.items c.args.self.now c.args.rev (Some c.in-Some.node.now) c.node_in.ensures.linked (shows c.self.inside.stored.items c.self.inside.stored.origins c.args.self.now c.node_in.ensures.linked c.self.view_is) (sym c.in-Some.ensures.node))

pub returns-in_default : goal.returns-in_default
returns-in_default c = sym (leaf_is c.self.inside.stored.items c.args.self.now c.args.rev None c.node_in.ensures.linked (shows c.self.inside.stored.items c.self.inside.stored.origins c.args.self.now c.node_in.ensures.linked c.self.view_is) (sym c.node_in.ensures.node ∙ ap option_copied c.in_default.is))
