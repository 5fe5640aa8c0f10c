use Rattle.proof_prelude.proofs.{◌<◌, Some, length, length-set, sym, ap, ◌∙◌, arith}
use Rattle.rev_tree.proofs.{none_of, read_at, rev_at_place, step, skip_step, told_more}
use Rattle.rev_tree.proofs.nodes.Nodes.tell.Goals as goal

pub walk-preserved : goal.walk-preserved
walk-preserved c =
    let nodes = c.args.self.now.items in
    let told = c.walk.told.items in
    let n = c.node_at.result.now in
    let low : c.walk.at < length told = omega (arith, c.walk.invariant.within, c.walk.invariant.size) in
    let none = read_at told c.walk.at c.index.result.now low c.index.ensures ∙ ap Some (none_of c.index.result.now (sym c.is_some.ensures ∙ c.if-is_some.false)) in
    let s = step nodes c.node_at.ensures.linked c.walk.at n c.node_at.ensures.node c.requires.tree c.in-Some.parent (sym c.parent.ensures ∙ c.in-Some.is) in
    record {
      told = λ revs h a. told_more nodes revs told c.walk.at c.args.answer (c.walk.invariant.told revs h a) (c.walk.invariant.same revs h a);
      same = λ revs h a.
          c.walk.invariant.same revs h a
          ∙ skip_step nodes revs c.walk.at c.in-Some.parent n s ((c.walk.invariant.told revs h a).unknown c.walk.at n.rev none (rev_at_place nodes c.walk.at n c.node_at.ensures.node));
      within = s.within;
      size = length-set told c.walk.at (Some c.args.answer) ∙ c.walk.invariant.size;
    }

pub walk-smaller : goal.walk-smaller
walk-smaller c = (step c.args.self.now.items c.node_at.ensures.linked c.walk.at c.node_at.result.now c.node_at.ensures.node c.requires.tree c.in-Some.parent (sym c.parent.ensures ∙ c.in-Some.is)).falls

pub returns-in-None-clause-told : goal.returns-in-None-clause-told
returns-in-None-clause-told c revs h a = told_more c.args.self.now.items revs c.walk.told.items c.walk.at c.args.answer (c.walk.invariant.told revs h a) (c.walk.invariant.same revs h a)
