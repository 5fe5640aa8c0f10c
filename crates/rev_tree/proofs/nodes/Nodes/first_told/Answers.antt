use Rattle.proof_prelude.proofs.{◌<◌, Some, None, length, sym, ap, ◌∙◌, arith, slice_get-get_or}
use Rattle.rev_tree.proofs.{rev_at_place, step, last, skip_step, skip_last}
use Rattle.rev_tree.proofs.nodes.Nodes.first_told.Goals as goal

pub walk-preserved : goal.walk-preserved
walk-preserved c =
    let nodes = c.args.self.now.items in
    let n = c.node_at.result.now in
    let low : c.walk.at < length c.args.told.now = omega (arith, c.walk.invariant.within, c.requires.len) in
    let none = slice_get-get_or c.args.told.now c.walk.at None low ∙ ap Some c.in_default.is in
    let s = step nodes c.node_at.ensures.linked c.walk.at n c.node_at.ensures.node c.requires.tree c.in-Some-parent.parent (sym c.parent.ensures ∙ c.in-Some-parent.is) in
    record {
      same = λ revs h.
          sym (skip_step nodes revs c.walk.at c.in-Some-parent.parent n s (h.unknown c.walk.at n.rev none (rev_at_place nodes c.walk.at n c.node_at.ensures.node)))
          ∙ c.walk.invariant.same revs h;
      within = s.within;
    }

pub walk-smaller : goal.walk-smaller
walk-smaller c = (step c.args.self.now.items c.node_at.ensures.linked c.walk.at c.node_at.result.now c.node_at.ensures.node c.requires.tree c.in-Some-parent.parent (sym c.parent.ensures ∙ c.in-Some-parent.is)).falls

pub returns-in-Some : goal.returns-in-Some
returns-in-Some c revs h =
    let low : c.walk.at < length c.args.told.now = omega (arith, c.walk.invariant.within, c.requires.len) in
    h.known c.walk.at c.in-Some.answer (slice_get-get_or c.args.told.now c.walk.at None low ∙ ap Some c.in-Some.is) ∙ c.walk.invariant.same revs h

pub returns : goal.returns
returns c revs h =
    let nodes = c.args.self.now.items in
    let n = c.node_at.result.now in
    let low : c.walk.at < length c.args.told.now = omega (arith, c.walk.invariant.within, c.requires.len) in
    let none = slice_get-get_or c.args.told.now c.walk.at None low ∙ ap Some c.in_default.is in
    sym (skip_last nodes revs c.walk.at n (last nodes c.node_at.ensures.linked c.walk.at n c.node_at.ensures.node (sym c.parent.ensures ∙ c.in-None.is)) (h.unknown c.walk.at n.rev none (rev_at_place nodes c.walk.at n c.node_at.ensures.node)))
    ∙ c.walk.invariant.same revs h
