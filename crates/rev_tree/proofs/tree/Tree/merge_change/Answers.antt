use Rattle.proof_prelude.proofs.{◌≡◌, List, None, Ok, rules, sym, ap, ◌∙◌, subst, refl}
use Rattle.rev_core.specs.{IsAncestry, RevId, edges_of}
use Rattle.rev_tree.specs.{IsLinked, IsTree, IsTree-merged, NodeValue, OriginsValue, TreeValue, first_contradiction, merge_answer, merged, no_origin, shown, tree_of}
use Rattle.rev_tree.specs.declared.fault.Merged.TheVariants.{Changed}
use Rattle.rev_tree.proofs.{IsTree-shows, grown, none_from_answer, same_shown, shows, stored_tree}
use Rattle.rev_tree.proofs.tree.Tree.merge_change.Goals as goal
use Rattle.rev_tree.proofs.tree.Tree.merge_change.Goals.{After-all-nodes, After-from_residual}

-- the ancestry does not contradict the nodes
none_in : (nodes : List NodeValue) (os : OriginsValue) (t : TreeValue) (revs given : List RevId) → revs ≡ given → shown nodes os ≡ t → merge_answer t given ≡ Ok Changed → first_contradiction (tree_of nodes).parents (edges_of revs) ≡ None
none_in nodes os t revs given same view answer =
    (λ i. first_contradiction (tree_of nodes).parents (edges_of (same i)))
    ∙ ap (λ (u : TreeValue). first_contradiction u.parents (edges_of given)) view
    ∙ none_from_answer t given Changed answer

pub insert-requires : goal.insert-requires
insert-requires c = record {
  led = c.self.invariant.led;
  nodes = c.self.invariant.origins;
  ancestry = subst IsAncestry (sym c.revs-revs.ensures.all) c.revs-revs.ensures.ancestry;
  none = none_in c.self.inside.stored.items c.self.inside.stored.origins c.args.self.now c.revs-revs.result.now c.args.ancestry.now c.revs-revs.ensures.all c.self.view_is c.requires;
}

-- a failed call leaves the tree unchanged
stays : (c : After-from_residual) → shown c.insert.new.self.items c.insert.new.self.origins ≡ c.args.self.now
stays c =
    ap (λ l. shown l c.insert.new.self.origins) c.in_err-insert.ensures.err
    ∙ same_shown c.self.inside.stored.items c.self.inside.stored.origins c.insert.new.self.origins c.in_err-insert.ensures.old ∙ c.self.view_is

pub invariant_of-self : goal.invariant_of-self
invariant_of-self c = record {
  linked = subst IsLinked (sym c.in_err-insert.ensures.err) c.self.invariant.linked;
  led = rw (c.in_err-insert.ensures.err, c.in_err-insert.ensures.err_best) c.self.invariant.led;
  origins = c.in_err-insert.ensures.nodes;
}

pub returns-in_err-insert-clause-err : goal.returns-in_err-insert-clause-err
returns-in_err-insert-clause-err c =
    let same = stays c in
    search (rules, same)

pub returns-in_err-insert-clause-tree : goal.returns-in_err-insert-clause-tree
returns-in_err-insert-clause-tree c =
    subst IsTree (sym (stays c)) (stored_tree c.self.inside.stored.items c.self.inside.stored.origins c.self.inside.stored.best c.args.self.now c.self.invariant c.self.view_is)

-- the nodes with the ancestry represent a tree
made : (c : After-all-nodes) → IsTree (tree_of c.insert.new.self.items)
made c =
    subst IsTree (sym c.in_ok-insert.ensures.tree)
    (IsTree-merged (tree_of c.self.inside.stored.items) c.revs-revs.result.now c.args.content no_origin c.self.invariant.led.tree
    (subst IsAncestry (sym c.revs-revs.ensures.all) c.revs-revs.ensures.ancestry)
    (none_in c.self.inside.stored.items c.self.inside.stored.origins c.args.self.now c.revs-revs.result.now c.args.ancestry.now c.revs-revs.ensures.all c.self.view_is c.requires))

pub invariant_of-self-2 : goal.invariant_of-self-2
invariant_of-self-2 c = record {
  linked = c.all-nodes.ensures.linked;
  led = record { tree = made c; first = c.in_ok-insert.ensures.best };
  origins = c.in_ok-insert.ensures.nodes;
}

pub returns-clause-ok : goal.returns-clause-ok
returns-clause-ok c =
    grown c.self.inside.stored.items c.insert.new.self.items c.self.inside.stored.origins c.insert.new.self.origins c.revs-revs.result.now c.args.content c.args.origin
    c.self.invariant.linked c.all-nodes.ensures.linked c.in_ok-insert.ensures.tree c.in_ok-insert.ensures.kept c.in_ok-insert.ensures.old c.in_ok-insert.ensures.new
    ∙ ap (λ t. merged t c.revs-revs.result.now c.args.content c.args.origin) c.self.view_is
    ∙ ap (λ revs. merged c.args.self.now revs c.args.content c.args.origin) c.revs-revs.ensures.all

pub returns-clause-tree : goal.returns-clause-tree
returns-clause-tree c =
    IsTree-shows c.insert.new.self.items _ (shows c.insert.new.self.items c.insert.new.self.origins _ c.all-nodes.ensures.linked refl) (made c)
