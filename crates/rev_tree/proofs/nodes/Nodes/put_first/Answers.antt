use Rattle.proof_prelude.proofs.{◌≡◌, ◌-◌, ◌<◌, ◌++◌, ◌∷◌, [], List, length, take, sym, ap, ◌∙◌, subst, refl, arith, take_more, take_all}
use Rattle.rev_core.specs.{RevId}
use Rattle.rev_tree.specs.{HasRoom, revs_in, tree_of}
use Rattle.rev_tree.proofs.{blocks_first, blocks_next, child_at, next_unplaced, put_start, put_next, put_end, new_counts, room_first, room_next, standing}
use Rattle.rev_tree.proofs.nodes.Nodes.put_first.Goals as goal

none_taken : (revs : List RevId) → [] ≡ take 0 revs
none_taken [] = refl
none_taken (r ∷ revs) = refl

pub push-child-requires-clause-new : goal.push-child-requires-clause-new
push-child-requires-clause-new c =
    next_unplaced c.args.self.now.items c.args.revs.now 0 c.index-revs-0.result c.requires.ancestry.falls c.requires.ancestry.nonempty c.index-revs-0.is (ap revs_in c.requires.none ∙ none_taken c.args.revs.now)

pub push-child-requires-clause-room : goal.push-child-requires-clause-room
push-child-requires-clause-room c =
    let r = c.index-revs-0.result in
    subst (HasRoom c.args.self.now) (new_counts c.args.self.now.items r (push-child-requires-clause-new c))
    (room_first c.args.self.now c.args.revs.now r c.requires.ancestry.nonempty c.index-revs-0.is c.requires.room)

pub push-child-requires-clause-blocks : goal.push-child-requires-clause-blocks
push-child-requires-clause-blocks c = omega (arith, blocks_first c.args.revs.now c.index-revs-0.result c.requires.ancestry.nonempty c.index-revs-0.is, c.requires.blocks)

pub give-requires : goal.give-requires
give-requires c = record { within = standing c.push-child.new.self c.push-child.result c.index-revs-0.result c.push-child.ensures.gained.at }

pub loop-i-init : goal.loop-i-init
loop-i-init c =
    let revs = c.args.revs.now in
    let r = c.index-revs-0.result in
    record {
      put =
          put_start c.args.self.now c.push-child.new.self c.give.new.self c.args.revs.now c.args.content c.push-child.result c.index-revs-0.result c.requires.ancestry.nonempty c.index-revs-0.is c.requires.room c.push-child.ensures.gained
          (c.give.ensures.tree c.index-revs-0.result c.push-child.ensures.gained.at) c.give.ensures.revs c.give.ensures.room;
      revs =
          c.give.ensures.revs ∙ c.push-child.ensures.revs ∙ ap (λ l. l ++ r ∷ []) (ap revs_in c.requires.none ∙ none_taken revs)
          ∙ sym (take_more revs 0 r c.requires.ancestry.nonempty ∙ ap (λ x. take 0 revs ++ x ∷ []) (sym c.index-revs-0.is));
      blocks = omega (arith, blocks_first revs r c.requires.ancestry.nonempty c.index-revs-0.is, c.requires.blocks, c.push-child.ensures.blocks);
    }

pub push-parent-requires-clause-new : goal.push-parent-requires-clause-new
push-parent-requires-clause-new c =
    next_unplaced c.loop-i.self.items c.args.revs.now c.loop-i.i c.index-revs-i.result c.requires.ancestry.falls c.loop-i-test.true c.index-revs-i.is c.loop-i.invariant.revs

pub push-parent-requires-clause-room : goal.push-parent-requires-clause-room
push-parent-requires-clause-room c =
    let r = c.index-revs-i.result in
    subst (HasRoom c.loop-i.self) (new_counts c.loop-i.self.items r (push-parent-requires-clause-new c))
    (room_next c.loop-i.self c.args.revs.now c.loop-i.i r c.loop-i-test.true c.index-revs-i.is c.loop-i.invariant.put.room)

pub push-parent-requires-clause-blocks : goal.push-parent-requires-clause-blocks
push-parent-requires-clause-blocks c = omega (arith, blocks_next c.args.revs.now c.loop-i.i c.index-revs-i.result c.loop-i-test.true c.index-revs-i.is, c.loop-i.invariant.blocks)

pub link-requires-clause-parent_within : goal.link-requires-clause-parent_within
link-requires-clause-parent_within c = standing c.push-parent.new.self c.push-parent.result c.index-revs-i.result c.push-parent.ensures.gained.at

pub link-requires-clause-child_within : goal.link-requires-clause-child_within
link-requires-clause-child_within c =
    let low : c.loop-i.i - 1 < length c.args.revs.now = omega arith in
    standing c.push-parent.new.self c.loop-i.child _ (c.push-parent.ensures.gained.kept c.loop-i.child _ (child_at _ c.loop-i.self c.args.revs.now c.args.content c.loop-i.i c.loop-i.child c.loop-i.invariant.put (omega arith) c.index-revs-i.result low))

pub loop-i-preserved : goal.loop-i-preserved
loop-i-preserved c =
    let revs = c.args.revs.now in
    let i = c.loop-i.i in
    let r = c.index-revs-i.result in
    record {
      put =
          put_next (tree_of c.args.self.now.items) c.loop-i.self c.args.revs.now c.args.content c.loop-i.i c.loop-i.child c.loop-i.invariant.put (omega arith) c.index-revs-i.result c.push-parent.new.self c.link.new.self c.push-parent.result c.loop-i-test.true c.index-revs-i.is c.push-parent.ensures.gained
          c.link.ensures.tree c.link.ensures.revs c.link.ensures.room;
      revs =
          c.link.ensures.revs ∙ c.push-parent.ensures.revs ∙ ap (λ l. l ++ r ∷ []) c.loop-i.invariant.revs
          ∙ sym (take_more revs i r c.loop-i-test.true ∙ ap (λ x. take i revs ++ x ∷ []) (sym c.index-revs-i.is));
      blocks = omega (arith, blocks_next revs i r c.loop-i-test.true c.index-revs-i.is, c.loop-i.invariant.blocks, c.push-parent.ensures.blocks);
    }

pub returns-clause-tree : goal.returns-clause-tree
returns-clause-tree c = put_end (tree_of c.args.self.now.items) c.loop-i.self c.args.revs.now c.args.content c.loop-i.i c.loop-i.child c.loop-i.invariant.put c.loop-i-test.false

pub returns-clause-revs : goal.returns-clause-revs
returns-clause-revs c = c.loop-i.invariant.revs ∙ take_all _ _ c.loop-i-test.false
