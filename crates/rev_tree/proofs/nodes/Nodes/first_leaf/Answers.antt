use Rattle.proof_prelude.proofs.{take, filter, Some, cond, not, slice_get, sym, ap, ◌∙◌, subst, is_some, cond-true, cond-false, false≢true, option_copied}
use Rattle.rev_tree.specs.{in_order, placed, is_leaf, leaf_cmp, revs_in, tree_of}
use Rattle.rev_tree.proofs.{shows_itself, IsBest, best_none, best_placed, best_of_all, leaf_item, deleted_item, leaves_more, read_at, rev_of_place}
use Rattle.rev_tree.proofs.nodes.Nodes.first_leaf.Goals as goal
use Rattle.rev_tree.proofs.nodes.Nodes.first_leaf.Goals.{then-not-has_child+then-goes_before, then-not-has_child+else-goes_before, else-not-has_child}

pub loop-i-init : goal.loop-i-init
loop-i-init c = record { best = best_none (tree_of c.args.self.now.items); at = λ n e. absurd (false≢true (ap is_some e)) }

pub loop-i-preserved : goal.loop-i-preserved
loop-i-preserved c =
    let nodes = c.args.self.now.items in
    let t = tree_of nodes in
    let items = c.all-nodes.result.now in
    let i = c.loop-i.i in
    let n = c.index-nodes-i.result in
    let before = in_order (leaf_cmp t) (filter (is_leaf t) (revs_in (take i items))) in
    let linked = c.all-nodes.ensures.linked in
    let leaf = leaf_item nodes items t linked (shows_itself nodes) c.all-nodes.ensures.items i n c.loop-i-test.true c.index-nodes-i.is in
    let deletes = deleted_item nodes items t linked (shows_itself nodes) c.all-nodes.ensures.items i n c.loop-i-test.true c.index-nodes-i.is in
    let more = leaves_more t items i n c.loop-i-test.true c.index-nodes-i.is in
    let step = best_placed t before (option_copied c.loop-i.best) n deletes c.loop-i.invariant.best in
    elim c.if-not-has_child.branch [
      | then-not-has_child+then-goes_before w ↦
          let first = ap (λ b. cond b (Some n) (option_copied c.loop-i.best)) (sym w.goes_before.ensures ∙ w.if-goes_before.true) ∙ ap option_copied (sym w.best-is) in
          record {
            best =
                subst (λ l. IsBest t l (option_copied c.if-not-has_child.best)) (sym (more ∙ cond-true _ _ _ (leaf ∙ ap not (sym c.has_child.ensures ∙ w.if-not-has_child.true))))
                (subst (IsBest t (placed (leaf_cmp t) n.rev before)) first step);
            at = λ m e.
                ap (slice_get items) w.place-is ∙ read_at items i n c.loop-i-test.true c.index-nodes-i.is ∙ (sym (ap option_copied w.best-is) ∙ e);
          }
      | then-not-has_child+else-goes_before w ↦
          let first = ap (λ b. cond b (Some n) (option_copied c.loop-i.best)) (sym w.goes_before.ensures ∙ w.if-goes_before.false) ∙ ap option_copied (sym w.best-is) in
          record {
            best =
                subst (λ l. IsBest t l (option_copied c.if-not-has_child.best)) (sym (more ∙ cond-true _ _ _ (leaf ∙ ap not (sym c.has_child.ensures ∙ w.if-not-has_child.true))))
                (subst (IsBest t (placed (leaf_cmp t) n.rev before)) first step);
            at = λ m e. ap (slice_get items) w.place-is ∙ c.loop-i.invariant.at m (sym (ap option_copied w.best-is) ∙ e);
          }
      | else-not-has_child w ↦ record {
        best =
            subst (λ l. IsBest t l (option_copied c.if-not-has_child.best)) (sym (more ∙ cond-false _ _ _ (leaf ∙ ap not (sym c.has_child.ensures ∙ w.if-not-has_child.false))))
            (subst (IsBest t before) (ap option_copied (sym w.best-is)) c.loop-i.invariant.best);
        at = λ m e. ap (slice_get items) w.place-is ∙ c.loop-i.invariant.at m (sym (ap option_copied w.best-is) ∙ e);
      }
    ]

pub returns : goal.returns
returns c r e =
    let nodes = c.args.self.now.items in
    let items = c.all-nodes.result.now in
    let all = best_of_all nodes items (tree_of nodes) c.all-nodes.ensures.linked (shows_itself nodes) c.all-nodes.ensures.items c.loop-i.i _ c.loop-i-test.false c.loop-i.invariant.best in
    ap (λ l. slice_get (revs_in l) c.loop-i.place) (sym c.all-nodes.ensures.items)
    ∙ rev_of_place items c.loop-i.place r (option_copied c.loop-i.best) c.loop-i.invariant.at (all ∙ e)
