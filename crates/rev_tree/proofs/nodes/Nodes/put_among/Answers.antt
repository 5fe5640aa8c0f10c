use Rattle.proof_prelude.proofs.{◌≡◌, ℕ, ◌-◌, ◌<◌, Some, length, slice_get, sym, ap, ◌∙◌, arith, slice_get-get_or}
use Rattle.rev_core.specs.{RevId}
use Rattle.rev_tree.specs.{revs_in, tree_of}
use Rattle.rev_tree.proofs.{blocks_first, blocks_next, read_at, child_at, put_start, put_next, put_end, room_first, room_next, same_length, standing}
use Rattle.rev_tree.proofs.nodes.Nodes.put_among.Goals as goal

pub add-head-requires-clause-room : goal.add-head-requires-clause-room
add-head-requires-clause-room c = room_first c.args.self.now c.args.revs.now c.index-revs-0.result c.requires.some c.index-revs-0.is c.requires.room

pub add-head-requires-clause-blocks : goal.add-head-requires-clause-blocks
add-head-requires-clause-blocks c = omega (arith, blocks_first c.args.revs.now c.index-revs-0.result c.requires.some c.index-revs-0.is, c.requires.blocks)

pub give-requires : goal.give-requires
give-requires c = record { within = standing c.add-head.new.self c.add-head.result c.index-revs-0.result c.add-head.ensures.gained.at }

pub loop-i-init : goal.loop-i-init
loop-i-init c =
    let revs = c.args.revs.now in
    let r = c.index-revs-0.result in
    record {
      put =
          put_start c.args.self.now c.add-head.new.self c.give.new.self revs c.args.content c.add-head.result r c.requires.some c.index-revs-0.is c.requires.room c.add-head.ensures.gained
          (c.give.ensures.tree r c.add-head.ensures.gained.at) c.give.ensures.revs c.give.ensures.room;
      head = ap (λ l. slice_get l c.add-head.result) c.give.ensures.revs ∙ c.add-head.ensures.gained.at ∙ sym (read_at revs 0 r c.requires.some c.index-revs-0.is);
      kept = λ i q h. ap (λ l. slice_get l i) c.give.ensures.revs ∙ c.add-head.ensures.gained.kept i q h;
      most = omega (arith, c.requires.some);
      len = omega (arith, same_length _ _ c.give.ensures.revs, c.add-head.ensures.gained.len);
      blocks = omega (arith, blocks_first revs r c.requires.some c.index-revs-0.is, c.requires.blocks, c.add-head.ensures.blocks);
    }

pub near-near-requires : goal.near-near-requires
near-near-requires c =
    let low : c.loop-i.i - 1 < length c.args.revs.now = omega arith in
    standing c.loop-i.self c.loop-i.child _ (child_at _ c.loop-i.self c.args.revs.now c.args.content c.loop-i.i c.loop-i.child c.loop-i.invariant.put (omega arith) c.index-revs-0.result low)

pub add-parent-requires-clause-room : goal.add-parent-requires-clause-room
add-parent-requires-clause-room c = room_next c.loop-i.self c.args.revs.now c.loop-i.i c.index-revs-i.result c.loop-i-test.true c.index-revs-i.is c.loop-i.invariant.put.room

pub add-parent-requires-clause-blocks : goal.add-parent-requires-clause-blocks
add-parent-requires-clause-blocks c = omega (arith, blocks_next c.args.revs.now c.loop-i.i c.index-revs-i.result c.loop-i-test.true c.index-revs-i.is, c.loop-i.invariant.blocks)

pub link-requires-clause-parent_within : goal.link-requires-clause-parent_within
link-requires-clause-parent_within c = standing c.add-parent.new.self c.add-parent.result c.index-revs-i.result c.add-parent.ensures.gained.at

pub link-requires-clause-child_within : goal.link-requires-clause-child_within
link-requires-clause-child_within c =
    let low : c.loop-i.i - 1 < length c.args.revs.now = omega arith in
    standing c.add-parent.new.self c.loop-i.child _ (c.add-parent.ensures.gained.kept c.loop-i.child _ (child_at _ c.loop-i.self c.args.revs.now c.args.content c.loop-i.i c.loop-i.child c.loop-i.invariant.put (omega arith) c.index-revs-i.result low))

pub loop-i-preserved : goal.loop-i-preserved
loop-i-preserved c =
    let stays = λ (i : ℕ) (q : RevId) (h : slice_get (revs_in c.loop-i.self.items) i ≡ Some q). ap (λ l. slice_get l i) c.link.ensures.revs ∙ c.add-parent.ensures.gained.kept i q h in
    record {
      put =
          put_next (tree_of c.args.self.now.items) c.loop-i.self c.args.revs.now c.args.content c.loop-i.i c.loop-i.child c.loop-i.invariant.put (omega arith) c.index-revs-i.result c.add-parent.new.self c.link.new.self c.add-parent.result c.loop-i-test.true c.index-revs-i.is c.add-parent.ensures.gained
          c.link.ensures.tree c.link.ensures.revs c.link.ensures.room;
      head =
          let some : 0 < length c.args.revs.now = omega (arith, c.requires.some) in
          let first = slice_get-get_or c.args.revs.now 0 c.index-revs-0.result some in
          stays c.add-head.result _ (c.loop-i.invariant.head ∙ first) ∙ sym first;
      kept = λ i q h. stays i q (c.loop-i.invariant.kept i q h);
      most = omega (arith, c.loop-i-test.true);
      len = omega (arith, same_length _ _ c.link.ensures.revs, c.add-parent.ensures.gained.len, c.loop-i.invariant.len);
      blocks = omega (arith, blocks_next c.args.revs.now c.loop-i.i c.index-revs-i.result c.loop-i-test.true c.index-revs-i.is, c.loop-i.invariant.blocks, c.add-parent.ensures.blocks);
    }

pub returns-clause-len : goal.returns-clause-len
returns-clause-len c = omega (arith, c.loop-i.invariant.len, c.loop-i.invariant.most)

pub returns-clause-tree : goal.returns-clause-tree
returns-clause-tree c = put_end (tree_of c.args.self.now.items) c.loop-i.self c.args.revs.now c.args.content c.loop-i.i c.loop-i.child c.loop-i.invariant.put c.loop-i-test.false
