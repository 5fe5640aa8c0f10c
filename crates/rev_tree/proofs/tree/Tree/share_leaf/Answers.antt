use Rattle.proof_prelude.proofs.{rules, refl, sym, subst, ◌∙◌}
use Rattle.rev_tree.specs.{IsLinked, IsTree, tree_of}
use Rattle.rev_tree.proofs.{IsTree-shows, all_shown, shared_leaf, shows, single}
use Rattle.rev_tree.proofs.tree.Tree.share_leaf.Goals as goal

pub returns-clause-tree : goal.returns-clause-tree
returns-clause-tree c =
    let items = c.in_ok-stored.stored.items in
    let linked = subst IsLinked (sym c.in_ok-stored.ensures.items) c.self.invariant.linked in
    IsTree-shows items _ (shows items c.in_ok-stored.stored.origins _ linked refl) (subst (λ l. IsTree (tree_of l)) (sym c.in_ok-stored.ensures.items) c.self.invariant.led.tree)

pub returns-clause-shared : goal.returns-clause-shared
returns-clause-shared c leaf content is has =
    all_shown c.in_ok-stored.stored c.self.inside.stored.items c.args.origin c.in_ok-stored.ensures.items c.in_ok-stored.ensures.all
    ∙ shared_leaf c.self.inside.stored.items c.self.inside.stored.origins c.self.inside.stored.best c.args.self.now c.args.origin leaf content c.self.invariant c.self.view_is
    (single c.only_leaf.result c.args.self.now c.only_leaf.ensures (search (rules, c.is_none.ensures, c.if-is_none.false)))
    (c.only_leaves_have_contents.ensures.only c.if-not-only_leaves_have_contents.false) is has
