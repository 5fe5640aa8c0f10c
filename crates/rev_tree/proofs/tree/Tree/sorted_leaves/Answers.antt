use Rattle.proof_prelude.proofs.{◌≡◌, ◌++◌, ◌∷◌, [], take, filter, map, cond, not, IfOk, sym, ap, ◌∙◌, subst, rules, map-append, always_returns_same, ranks_by, is_lt, take_all, append-nil}
use Rattle.rev_tree.specs.{is_leaf, Leaf, revs_in}
use Rattle.rev_tree.proofs.{shows, leaf_item, deleted_item, leaves_pushed, leaves_of_nodes, count_once, told_deleted, pair_cmp, pair_cmp_total, told, leaves_in_order}
use Rattle.rev_tree.proofs.tree.Tree.sorted_leaves.Goals as goal
use Rattle.rev_tree.proofs.tree.Tree.sorted_leaves.Goals.{then-not-has_child+in_ok-push, else-not-has_child}

pub loop-node-preserved : goal.loop-node-preserved
loop-node-preserved c =
    let t = c.args.self.now in
    let items = c.all-node-items.result.now in
    let i = c.loop-node.node-index in
    let n = c.node-item.result in
    let before = filter (is_leaf t) (revs_in (take i items)) in
    let leaf = leaf_item c.self.inside.stored.items items t c.all-node-items.ensures.linked (shows c.self.inside.stored.items c.self.inside.stored.origins c.args.self.now c.all-node-items.ensures.linked c.self.view_is) c.all-node-items.ensures.items i n c.loop-node-test.true c.node-item.is in
    let deletes = deleted_item c.self.inside.stored.items items t c.all-node-items.ensures.linked (shows c.self.inside.stored.items c.self.inside.stored.origins c.args.self.now c.all-node-items.ensures.linked c.self.view_is) c.all-node-items.ensures.items i n c.loop-node-test.true c.node-item.is in
    let more = leaves_pushed t items i n c.loop-node-test.true c.node-item.is in
    elim c.if-not-has_child.branch [
      | then-not-has_child+in_ok-push w ↦
          ap (λ v. map told v.items) w.found-is ∙ ap (map told) w.in_ok-push.ensures.items ∙ map-append told c.loop-node.found.items (w.new.result ∷ [])
          ∙ (λ i. map told c.loop-node.found.items ++ (w.new.ensures.deleted i, w.new.ensures.rev i) ∷ [])
          ∙ ap (λ r. map told c.loop-node.found.items ++ (w.is_deleted.result, r) ∷ []) w.rev.ensures
          ∙ ap (λ l. l ++ (w.is_deleted.result, n.rev) ∷ []) c.loop-node.invariant
          ∙ ap (λ b. map (told_deleted t) before ++ (b, n.rev) ∷ []) (w.is_deleted.ensures ∙ sym deletes)
          ∙ sym (map-append (told_deleted t) before (n.rev ∷ []))
          ∙ ap (map (told_deleted t)) (sym (more ∙ ap (λ b. before ++ cond b (n.rev ∷ []) []) (leaf ∙ ap not (sym c.has_child.ensures ∙ w.if-not-has_child.true))))
      | else-not-has_child w ↦
          ap (λ v. map told v.items) w.found-is ∙ c.loop-node.invariant
          ∙ ap (map (told_deleted t)) (sym (more ∙ ap (λ b. before ++ cond b (n.rev ∷ []) []) (leaf ∙ ap not (sym c.has_child.ensures ∙ w.if-not-has_child.false)) ∙ append-nil before))
    ]

pub returns : goal.returns
returns c =
    let t = c.args.self.now in
    let nodes = c.self.inside.stored.items in
    let revs = filter (is_leaf t) (revs_in nodes) in
    let found : map told c.loop-node.found.items ≡ map (told_deleted t) revs = c.loop-node.invariant ∙ ap (λ l. map (told_deleted t) (filter (is_leaf t) (revs_in l))) (take_all _ _ c.loop-node-test.false ∙ c.all-node-items.ensures.items) in
    let sorted =
    leaves_in_order t revs c.loop-node.found.items c.sort_unstable_by.new.self.items (count_once t (revs_in nodes) c.all-node-items.ensures.linked.once)
    found c.sort_unstable_by.ensures.permutation
    (c.sort_unstable_by.ensures.sorted (λ x y. is_lt (pair_cmp (told x) (told y))) (ranks_by pair_cmp_total told) (always_returns_same _ _ _ (λ a r q k. search rules)))
    ∙ leaves_of_nodes nodes t c.all-node-items.ensures.linked (shows c.self.inside.stored.items c.self.inside.stored.origins c.args.self.now c.all-node-items.ensures.linked c.self.view_is) in
    subst (λ l. IfOk c.revs_of.result (λ v. v.items ≡ l)) (ap (map (λ (l : Leaf). l.rev.now)) c.deref.ensures.value ∙ sorted) c.revs_of.ensures
