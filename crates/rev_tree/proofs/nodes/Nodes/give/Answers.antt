use Rattle.proof_prelude.proofs.{◌≡◌, ◌<◌, Some, is_some, not, set, length, length-set, slice_get, sym, ap, ◌∙◌, subst, arith, false≢true}
use Rattle.rev_tree.specs.{index_for, NodeValue, revs_in, tree_of, with_content}
use Rattle.rev_tree.proofs.{AreKept, kept_played, kept_set, none_of, read_at, read_alike, is_some-copied, IsGiven, given, tree_has}
use Rattle.rev_tree.proofs.nodes.Nodes.give.Goals as goal
use Rattle.rev_tree.proofs.nodes.Nodes.give.Goals.{After-give}

gives : (c : After-give) → IsGiven c.self.inside.list.items (set c.self.inside.list.items c.args.place c.give.new.self) c.args.place c.args.content
gives c =
    let items = c.self.inside.list.items in
    let n = c.index_mut.result.now in
    let low : c.args.place < length items = subst (λ v. c.args.place < length v.items) (sym c.self.view_is) c.requires.within in
    let same = read_alike items c.args.place n c.index.result.now low c.index_mut.ensures.value c.index.ensures in
    let none = none_of n.content (ap (λ (x : NodeValue). is_some x.content) same ∙ ap is_some (sym c.content.ensures) ∙ sym (is_some-copied c.content.result) ∙ c.is_none.ensures ∙ ap not c.if-is_none.true) in
    given items c.args.place n c.give.new.self c.args.content c.self.invariant.linked (read_at items c.args.place n low c.index_mut.ensures.value) none c.give.ensures

keeps : (c : After-give) → AreKept c.self.inside.list.items (set c.self.inside.list.items c.args.place c.give.new.self)
keeps c =
    let items = c.self.inside.list.items in
    let n = c.index_mut.result.now in
    let low : c.args.place < length items = subst (λ v. c.args.place < length v.items) (sym c.self.view_is) c.requires.within in
    let same = read_alike items c.args.place n c.index.result.now low c.index_mut.ensures.value c.index.ensures in
    let none = none_of n.content (ap (λ (x : NodeValue). is_some x.content) same ∙ ap is_some (sym c.content.ensures) ∙ sym (is_some-copied c.content.result) ∙ c.is_none.ensures ∙ ap not c.if-is_none.true) in
    kept_set items c.args.place n c.give.new.self (read_at items c.args.place n low c.index_mut.ensures.value) (record {
      rev = ap (λ (x : NodeValue). x.rev) c.give.ensures;
      content = λ some. absurd (false≢true (ap is_some (sym none) ∙ some));
      child = λ h. sym (ap (λ (x : NodeValue). x.has_child) c.give.ensures) ∙ h;
    })

pub invariant_of-self : goal.invariant_of-self
invariant_of-self c =
    let items = c.self.inside.list.items in
    record {
      few = omega (arith, c.self.invariant.few, length-set items c.args.place c.give.new.self);
      index = c.self.invariant.index ∙ ap index_for (sym (gives c.before).revs);
      linked = (gives c.before).linked;
      played = kept_played items (set items c.args.place c.give.new.self) c.self.inside.places.winners c.self.inside.places.entered (keeps c.before) c.self.invariant.played;
    }

pub returns-then-is_none-clause-tree : goal.returns-then-is_none-clause-tree
returns-then-is_none-clause-tree c r is = (gives c.before).tree r (ap (λ v. slice_get (revs_in v.items) c.args.place) c.self.view_is ∙ is) ∙ ap (λ v. with_content (tree_of v.items) r c.args.content) c.self.view_is

pub returns-then-is_none-clause-revs : goal.returns-then-is_none-clause-revs
returns-then-is_none-clause-revs c = (gives c.before).revs ∙ ap (λ v. revs_in v.items) c.self.view_is

pub returns-else-is_none-clause-tree : goal.returns-else-is_none-clause-tree
returns-else-is_none-clause-tree c r is =
    let items = c.self.inside.list.items in
    let n = c.index.result.now in
    let low : c.args.place < length items = subst (λ v. c.args.place < length v.items) (sym c.self.view_is) c.requires.within in
    let there = ap is_some (sym c.content.ensures) ∙ sym (is_some-copied c.content.result) ∙ c.is_none.ensures ∙ ap not c.if-is_none.false in
    subst (λ v. slice_get (revs_in v.items) c.args.place ≡ Some r → tree_of v.items ≡ with_content (tree_of v.items) r c.args.content) c.self.view_is
    (tree_has items c.args.place n c.self.invariant.linked (read_at items c.args.place n low c.index.ensures) c.args.content there r) is
