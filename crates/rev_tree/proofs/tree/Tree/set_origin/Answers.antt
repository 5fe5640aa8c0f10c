use Rattle.proof_prelude.proofs.{refl, sym, subst, ◌∙◌}
use Rattle.rev_tree.specs.{IsLinked, IsTree, tree_of}
use Rattle.rev_tree.proofs.{IsTree-shows, all_shown, other_origin, shows}
use Rattle.rev_tree.proofs.tree.Tree.set_origin.Goals as goal

pub returns-clause-tree : goal.returns-clause-tree
returns-clause-tree c =
    let items = c.set_origin.new.self.items in
    let linked = subst IsLinked (sym c.set_origin.ensures.items) c.self.invariant.linked in
    IsTree-shows items _ (shows items c.set_origin.new.self.origins _ linked refl) (subst (λ l. IsTree (tree_of l)) (sym c.set_origin.ensures.items) c.self.invariant.led.tree)

pub returns-clause-origin : goal.returns-clause-origin
returns-clause-origin c revs content old is =
    all_shown c.set_origin.new.self c.self.inside.stored.items c.args.origin c.set_origin.ensures.items c.set_origin.ensures.all
    ∙ other_origin c.self.inside.stored.items c.self.inside.stored.origins c.args.self.now revs content old c.args.origin c.self.invariant.linked c.self.view_is is
