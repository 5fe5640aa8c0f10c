use Rattle.proof_prelude.proofs.{◌≡◌, ◌<◌, Some, is_some, not, set, length, length-set, slice_get, sym, ap, ◌∙◌, subst, arith, false≢true}
use Rattle.rev_tree.specs.{index_for, NodeValue, revs_in, tree_of, with_edge}
use Rattle.rev_tree.proofs.{AreKept, kept_played, kept_set, kept_twice, none_of, read_at, read_alike, IsEdged, edged, tree_named}
use Rattle.rev_tree.proofs.nodes.Nodes.link.Goals as goal
use Rattle.rev_tree.proofs.nodes.Nodes.link.Goals.{After-mark}

links : (c : After-mark) → IsEdged c.self.inside.list.items (set (set c.self.inside.list.items c.args.child c.name_parent.new.self) c.args.parent c.mark.new.self) c.args.child c.args.parent
links c =
    let items = c.self.inside.list.items in
    let n = c.index_mut.result.now in
    let m = c.index_mut-then-is_none.result.now in
    let low : c.args.child < length items = subst (λ v. c.args.child < length v.items) (sym c.self.view_is) c.requires.child_within in
    let also : c.args.parent < length items = subst (λ v. c.args.parent < length v.items) (sym c.self.view_is) c.requires.parent_within in
    let same = read_alike items c.args.child n c.index.result.now low c.index_mut.ensures.value c.index.ensures in
    let none = none_of n.parent (ap (λ (x : NodeValue). is_some x.parent) same ∙ ap is_some (sym c.parent.ensures) ∙ c.is_none.ensures ∙ ap not c.if-is_none.true) in
    edged items c.args.child c.args.parent n m c.name_parent.new.self c.mark.new.self c.self.invariant.linked
    (read_at items c.args.child n low c.index_mut.ensures.value) also none c.name_parent.ensures
    (read_at (set items c.args.child c.name_parent.new.self) c.args.parent m (omega (arith, also, length-set items c.args.child c.name_parent.new.self)) c.index_mut-then-is_none.ensures.value)
    c.mark.ensures

keeps : (c : After-mark) → AreKept c.self.inside.list.items (set (set c.self.inside.list.items c.args.child c.name_parent.new.self) c.args.parent c.mark.new.self)
keeps c =
    let items = c.self.inside.list.items in
    let n = c.index_mut.result.now in
    let m = c.index_mut-then-is_none.result.now in
    let low : c.args.child < length items = subst (λ v. c.args.child < length v.items) (sym c.self.view_is) c.requires.child_within in
    let also : c.args.parent < length items = subst (λ v. c.args.parent < length v.items) (sym c.self.view_is) c.requires.parent_within in
    let named = set items c.args.child c.name_parent.new.self in
    kept_twice items named (set named c.args.parent c.mark.new.self)
    (kept_set items c.args.child n c.name_parent.new.self (read_at items c.args.child n low c.index_mut.ensures.value) (record {
      rev = ap (λ (x : NodeValue). x.rev) c.name_parent.ensures;
      content = λ _. ap (λ (x : NodeValue). x.content) c.name_parent.ensures;
      child = λ h. sym (ap (λ (x : NodeValue). x.has_child) c.name_parent.ensures) ∙ h;
    }))
    (kept_set named c.args.parent m c.mark.new.self
    (read_at named c.args.parent m (omega (arith, also, length-set items c.args.child c.name_parent.new.self)) c.index_mut-then-is_none.ensures.value) (record {
      rev = ap (λ (x : NodeValue). x.rev) c.mark.ensures;
      content = λ _. ap (λ (x : NodeValue). x.content) c.mark.ensures;
      child = λ h. absurd (false≢true (sym h ∙ ap (λ (x : NodeValue). x.has_child) c.mark.ensures));
    }))

pub invariant_of-self : goal.invariant_of-self
invariant_of-self c =
    let items = c.self.inside.list.items in
    let named = set items c.args.child c.name_parent.new.self in
    record {
      few = omega (arith, c.self.invariant.few, length-set items c.args.child c.name_parent.new.self, length-set named c.args.parent c.mark.new.self);
      index = c.self.invariant.index ∙ ap index_for (sym (links c.before).revs);
      linked = (links c.before).linked;
      played = kept_played items (set named c.args.parent c.mark.new.self) c.self.inside.places.winners c.self.inside.places.entered (keeps c.before) c.self.invariant.played;
    }

pub returns-then-is_none-clause-tree : goal.returns-then-is_none-clause-tree
returns-then-is_none-clause-tree c child parent is at =
    (links c.before).tree child parent (ap (λ v. slice_get (revs_in v.items) c.args.child) c.self.view_is ∙ is) (ap (λ v. slice_get (revs_in v.items) c.args.parent) c.self.view_is ∙ at)
    ∙ ap (λ v. with_edge (tree_of v.items) child parent) c.self.view_is

pub returns-then-is_none-clause-revs : goal.returns-then-is_none-clause-revs
returns-then-is_none-clause-revs c = (links c.before).revs ∙ ap (λ v. revs_in v.items) c.self.view_is

pub returns-else-is_none-clause-tree : goal.returns-else-is_none-clause-tree
returns-else-is_none-clause-tree c child parent is _ =
    let items = c.self.inside.list.items in
    let n = c.index.result.now in
    let low : c.args.child < length items = subst (λ v. c.args.child < length v.items) (sym c.self.view_is) c.requires.child_within in
    subst (λ v. slice_get (revs_in v.items) c.args.child ≡ Some child → tree_of v.items ≡ with_edge (tree_of v.items) child parent) c.self.view_is
    (tree_named items c.args.child n c.self.invariant.linked (read_at items c.args.child n low c.index.ensures)
    (ap is_some (sym c.parent.ensures) ∙ c.is_none.ensures ∙ ap not c.if-is_none.false) child parent) is
