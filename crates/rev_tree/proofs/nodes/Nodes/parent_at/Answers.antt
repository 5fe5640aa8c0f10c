use Rattle.proof_prelude.proofs.{◌≡◌, ◌<◌, Some, None, IfSome, length, slice_get, get_or, sym, ap, ◌∙◌, subst, same_Some}
use Rattle.rev_tree.specs.{rev_at, revs_in, tree_of}
use Rattle.rev_tree.proofs.{shows_itself, node_at, place_known, place_unknown, read_at, parent_is}
use Rattle.rev_tree.proofs.nodes.Nodes.parent_at.Goals as goal
use Rattle.rev_tree.proofs.nodes.Nodes.parent_at.Goals.{After-parent}

pub returns-in_err-place-clause-parent : goal.returns-in_err-place-clause-parent
returns-in_err-place-clause-parent c r is =
    let nodes = c.args.self.now.items in
    ap (rev_at (revs_in nodes)) c.from_residual.ensures
    ∙ sym (parent_is nodes (tree_of nodes) r None c.all-nodes.ensures.linked (shows_itself nodes) (place_unknown nodes r (sym is ∙ c.in_err-place.was)))

-- the node at the index is the one that was read
reads : (c : After-parent) → slice_get c.args.self.now.items c.in_ok-place.place ≡ Some c.index-nodes-place.result
reads c =
    let nodes = c.args.self.now.items in
    let place = c.in_ok-place.place in
    let n = c.index-nodes-place.result in
    read_at nodes place n (subst (λ o. IfSome o (λ i. i < length nodes)) c.in_ok-place.was c.requires.within) (c.index-nodes-place.is ∙ ap (λ l. get_or l place n) c.all-nodes.ensures.items)

pub returns-clause-within : goal.returns-clause-within
returns-clause-within c =
    let nodes = c.args.self.now.items in
    let n = c.index-nodes-place.result in
    let linked = c.all-nodes.ensures.linked in
    subst (λ o. IfSome o (λ i. i < length nodes)) (sym c.parent.ensures) (linked.each n.rev n (node_at nodes linked.once c.in_ok-place.place n (reads c))).parent

pub returns-clause-parent : goal.returns-clause-parent
returns-clause-parent c r is =
    let nodes = c.args.self.now.items in
    let n = c.index-nodes-place.result in
    let f = place_known nodes r c.in_ok-place.place (sym is ∙ c.in_ok-place.was) in
    ap (rev_at (revs_in nodes)) c.parent.ensures
    ∙ sym (parent_is nodes (tree_of nodes) r (Some n) c.all-nodes.ensures.linked (shows_itself nodes) (f.found ∙ ap Some (same_Some f.node n (sym f.at ∙ reads c))))
