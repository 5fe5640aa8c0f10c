use Rattle.proof_prelude.proofs.{◌++◌, ◌∷◌, [], sym, ap, ◌∙◌, append_assoc}
use Rattle.rev_tree.specs.{ancestors_at}
use Rattle.rev_tree.proofs.{step, last}
use Rattle.rev_tree.proofs.nodes.Nodes.walk.Goals as goal

pub walk-preserved : goal.walk-preserved
walk-preserved c =
    let nodes = c.args.self.now.items in
    let n = c.node_at-node.result.now in
    let s = step nodes c.node_at-node.ensures.linked c.walk.at n c.node_at-node.ensures.node c.requires.tree c.in-Some.parent (sym c.parent.ensures ∙ c.in-Some.is) in
    record {
      walked =
          ap (λ l. l ++ ancestors_at nodes c.in-Some.parent) (c.push_reserved.ensures.items ∙ (λ i. c.reserve.ensures.items i ++ c.to_rev.ensures i ∷ []))
          ∙ append_assoc c.walk.revs.items (n.rev ∷ []) (ancestors_at nodes c.in-Some.parent)
          ∙ ap (λ l. c.walk.revs.items ++ l) (sym s.walk) ∙ c.walk.invariant.walked;
      within = s.within;
    }

pub walk-smaller : goal.walk-smaller
walk-smaller c = (step c.args.self.now.items c.node_at-node.ensures.linked c.walk.at c.node_at-node.result.now c.node_at-node.ensures.node c.requires.tree c.in-Some.parent (sym c.parent.ensures ∙ c.in-Some.is)).falls

pub returns : goal.returns
returns c =
    c.shrink_to_fit.ensures.items ∙ c.push_reserved.ensures.items ∙ (λ i. c.reserve.ensures.items i ++ c.to_rev.ensures i ∷ [])
    ∙ ap (λ l. c.walk.revs.items ++ l) (sym (last c.args.self.now.items c.node_at-node.ensures.linked c.walk.at c.node_at-node.result.now c.node_at-node.ensures.node (sym c.parent.ensures ∙ c.in-None.is)))
    ∙ c.walk.invariant.walked
