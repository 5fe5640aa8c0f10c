use Rattle.proof_prelude.proofs.{◌+◌, length, take, length-take, ap, ◌∙◌, arith, refl}
use Rattle.rev_core.specs.{RevId}
use Rattle.rev_tree.specs.{mark_of, noted, revs_in}
use Rattle.rev_tree.proofs.{length-revs_in, length_marks, marks_more}
use Rattle.rev_tree.proofs.nodes.index_from.Goals as goal

pub loop-i-init : goal.loop-i-init
loop-i-init c =
    let before = take c.args.first c.args.nodes.now in
    record {
      marks = c.requires.begun;
      len = omega (arith, ap length c.requires.begun, length_marks (revs_in before), length-revs_in before, length-take c.args.first c.args.nodes.now, c.requires.first);
      room = omega arith;
      winners = refl;
      entered = refl;
    }

pub loop-i-preserved : goal.loop-i-preserved
loop-i-preserved c =
    let nodes = c.args.nodes.now in
    let i = c.loop-i.i in
    let n = c.index-nodes-i.result in
    let sig = c.sig_bytes.ensures ∙ ap (λ (r : RevId). r.sig) c.rev.ensures in
    let marks =
    c.note.ensures.entries ∙ ap (λ m. noted c.loop-i.places.entries m i) (c.mark_of.ensures ∙ (λ j. mark_of (record { generation = c.generation.ensures.part j; sig = sig j })))
    ∙ ap (λ es. noted es (mark_of n.rev) i) c.loop-i.invariant.marks ∙ marks_more nodes i n c.loop-i-test.true c.index-nodes-i.is in
    let after = take (i + 1) nodes in
    record {
      marks = marks;
      len = omega (arith, ap length marks, length_marks (revs_in after), length-revs_in after, length-take (i + 1) nodes, c.loop-i-test.true);
      room = omega (arith, c.loop-i.invariant.room, c.note.ensures.room);
      winners = c.note.ensures.winners ∙ c.loop-i.invariant.winners;
      entered = c.note.ensures.entered ∙ c.loop-i.invariant.entered;
    }
