use Rattle.proof_prelude.proofs.{◌≡◌, ◌∷◌, [], slice_get, sym, ap, ◌∙◌, subst}
use Rattle.rev_tree.specs.{IsTree, SharedValue, best_in, first_of, items_in, leaves, no_origin, only, revs_in, tree_of}
use Rattle.rev_tree.proofs.{IsLed-none, alone_tree, first_put, lone_node, only_item}
use Rattle.rev_tree.proofs.stored.Stored.insert_only.Goals as goal

pub returns-clause-tree : goal.returns-clause-tree
returns-clause-tree c =
    let revs = only_item c.args.revs.now c.index-revs-0.result c.requires.only c.index-revs-0.is in
    ap (λ s. tree_of (items_in s)) (c.one.ensures.shared ∙ ap only (c.in_ok-new.ensures.ok ∙ c.in_ok-single.ensures))
    ∙ alone_tree c.args.self.now.items c.args.revs.now c.index-revs-0.result c.args.content c.requires.empty revs

pub returns-clause-best : goal.returns-clause-best
returns-clause-best c =
    let r = c.index-revs-0.result in
    let revs = only_item c.args.revs.now r c.requires.only c.index-revs-0.is in
    subst (λ (s : SharedValue). slice_get (revs_in (items_in s)) (best_in s) ≡ first_of (leaves (tree_of (items_in s))))
    (sym (c.one.ensures.shared ∙ ap only (c.in_ok-new.ensures.ok ∙ c.in_ok-single.ensures)))
    (first_put c.args.self.now.items (lone_node r c.args.content ∷ []) c.args.revs.now c.args.content no_origin c.requires.empty
    (subst (λ l. IsTree (tree_of l)) (sym c.requires.empty) IsLed-none.tree) c.requires.ancestry c.requires.none
    (alone_tree c.args.self.now.items c.args.revs.now r c.args.content c.requires.empty revs) (sym revs))
