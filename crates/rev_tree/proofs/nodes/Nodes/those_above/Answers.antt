use Rattle.proof_prelude.proofs.{◌++◌, ◌∷◌, [], None, sym, ap, ◌∙◌, false≢true, list_any}
use Rattle.rev_core.specs.{is_among}
use Rattle.rev_tree.specs.{tree_of, is_above_one}
use Rattle.rev_tree.proofs.{shows_itself, place_known, place_unknown, has_is, item_among, kept_pass, kept_fail, place_is}
use Rattle.rev_tree.proofs.nodes.Nodes.those_above.Goals as goal
use Rattle.rev_tree.proofs.nodes.Nodes.those_above.Goals.{then-is_above+in_ok-push, else-is_above}

pub unreachable-requires : goal.unreachable-requires
unreachable-requires c =
    let nodes = c.args.self.now.items in
    let leaf = c.leaf-item.result in
    let known = c.requires.known leaf (item_among c.args.leaves.now c.loop-leaf.leaf-index leaf c.loop-leaf-test.true c.leaf-item.is) in
    let none = place_unknown nodes leaf (sym c.place_in.ensures.place ∙ c.in_default.is) in
    false≢true (sym (has_is nodes (tree_of nodes) leaf None c.place_in.ensures.linked (shows_itself nodes) none) ∙ known)

pub is_above-requires-clause-within : goal.is_above-requires-clause-within
is_above-requires-clause-within c = (place_known c.args.self.now.items c.leaf-item.result c.in-Some.place (sym c.place_in.ensures.place ∙ c.in-Some.is)).within

pub loop-leaf-preserved : goal.loop-leaf-preserved
loop-leaf-preserved c =
    let nodes = c.args.self.now.items in
    let revs = c.args.revs.now in
    let t = tree_of nodes in
    let leaves = c.args.leaves.now in
    let i = c.loop-leaf.leaf-index in
    let leaf = c.leaf-item.result in
    let at = place_is nodes t leaf c.in-Some.place c.place_in.ensures.linked (shows_itself nodes) (sym c.place_in.ensures.place ∙ c.in-Some.is) in
    let is = c.is_above.ensures.above revs c.loop-leaf.invariant.told ∙ ap (λ l. list_any (λ r. is_among r l) revs) at.walk in
    record {
      above = elim c.if-is_above.branch [
        | then-is_above+in_ok-push w ↦ ap (λ v. v.items) w.above-is ∙ w.in_ok-push.ensures.items ∙ ap (λ l. l ++ leaf ∷ []) c.loop-leaf.invariant.above
            ∙ sym (kept_pass (is_above_one t revs) leaves i leaf c.is_above.result c.loop-leaf-test.true c.leaf-item.is is w.if-is_above.true)
        | else-is_above w ↦ ap (λ v. v.items) w.above-is ∙ c.loop-leaf.invariant.above
            ∙ sym (kept_fail (is_above_one t revs) leaves i leaf c.is_above.result c.loop-leaf-test.true c.leaf-item.is is w.if-is_above.false)
      ];
      told = c.is_above.ensures.told revs c.loop-leaf.invariant.told;
    }
