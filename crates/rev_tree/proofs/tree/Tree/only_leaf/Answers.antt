use Rattle.proof_prelude.proofs.{◌≡◌, ◌<◌, ◌++◌, ◌∷◌, [], Option, Some, None, is_some, refl, cond, not, length, take, get_or, filter, sym, ap, ◌∙◌, subst, option_copied, option_to_list, Bor, take_all, append-nil}
use Rattle.rev_core.specs.{RevId}
use Rattle.rev_tree.specs.{is_leaf, revs_in}
use Rattle.rev_tree.proofs.{shows, leaf_item, leaves_pushed, none_there, second_leaf, lone_leaf}
use Rattle.rev_tree.proofs.tree.Tree.only_leaf.Goals as goal
use Rattle.rev_tree.proofs.tree.Tree.only_leaf.Goals.{then-not-has_child+else-is_some, else-not-has_child}

is_some-copied : (o : Option (Bor RevId)) → is_some (option_copied o) ≡ is_some o
is_some-copied None = refl
is_some-copied (Some r) = refl

pub returns-then-is_some : goal.returns-then-is_some
returns-then-is_some c =
    let t = c.args.self.now in
    let nodes = c.self.inside.stored.items in
    let items = c.all-node-items.result.now in
    let i = c.loop-node.node-index in
    let n = c.node-item.result in
    let same = c.all-node-items.ensures.items in
    let leaf = leaf_item nodes items t c.all-node-items.ensures.linked (shows c.self.inside.stored.items c.self.inside.stored.origins c.args.self.now c.all-node-items.ensures.linked c.self.view_is) same i n c.loop-node-test.true c.node-item.is in
    second_leaf nodes t c.all-node-items.ensures.linked (shows c.self.inside.stored.items c.self.inside.stored.origins c.args.self.now c.all-node-items.ensures.linked c.self.view_is) i n (option_copied c.loop-node.found)
    (subst (λ l. i < length l) same c.loop-node-test.true)
    (subst (λ l. n ≡ get_or l i n) same c.node-item.is)
    (subst (λ l. filter (is_leaf t) (revs_in (take i l)) ≡ option_to_list (option_copied c.loop-node.found)) same c.loop-node.invariant)
    (is_some-copied c.loop-node.found ∙ sym c.is_some.ensures ∙ c.if-is_some.true)
    (leaf ∙ ap not (sym c.has_child.ensures ∙ c.if-not-has_child.true))

pub loop-node-preserved : goal.loop-node-preserved
loop-node-preserved c =
    let t = c.args.self.now in
    let items = c.all-node-items.result.now in
    let i = c.loop-node.node-index in
    let n = c.node-item.result in
    let before = filter (is_leaf t) (revs_in (take i items)) in
    let leaf = leaf_item c.self.inside.stored.items items t c.all-node-items.ensures.linked (shows c.self.inside.stored.items c.self.inside.stored.origins c.args.self.now c.all-node-items.ensures.linked c.self.view_is) c.all-node-items.ensures.items i n c.loop-node-test.true c.node-item.is in
    let more = leaves_pushed t items i n c.loop-node-test.true c.node-item.is in
    elim c.if-not-has_child.branch [
      | then-not-has_child+else-is_some w ↦
          more ∙ ap (λ b. before ++ cond b (n.rev ∷ []) []) (leaf ∙ ap not (sym c.has_child.ensures ∙ w.if-not-has_child.true))
          ∙ ap (λ l. l ++ n.rev ∷ []) (c.loop-node.invariant ∙ ap option_to_list (none_there (option_copied c.loop-node.found) (is_some-copied c.loop-node.found ∙ sym w.is_some.ensures ∙ w.if-is_some.false)))
          ∙ ap (λ r. r ∷ []) (sym w.rev.ensures) ∙ ap (λ o. option_to_list (option_copied o)) (sym w.found-is)
      | else-not-has_child w ↦
          more ∙ ap (λ b. before ++ cond b (n.rev ∷ []) []) (leaf ∙ ap not (sym c.has_child.ensures ∙ w.if-not-has_child.false)) ∙ append-nil before
          ∙ c.loop-node.invariant ∙ ap (λ o. option_to_list (option_copied o)) (sym w.found-is)
    ]

pub returns : goal.returns
returns c =
    let t = c.args.self.now in
    lone_leaf c.self.inside.stored.items t c.all-node-items.ensures.linked (shows c.self.inside.stored.items c.self.inside.stored.origins c.args.self.now c.all-node-items.ensures.linked c.self.view_is) (option_copied c.loop-node.found)
    (sym (ap (λ l. filter (is_leaf t) (revs_in l)) (take_all _ _ c.loop-node-test.false ∙ c.all-node-items.ensures.items)) ∙ c.loop-node.invariant)
