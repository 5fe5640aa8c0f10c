use Rattle.proof_prelude.proofs.{sym, ◌∙◌}
use Rattle.rev_tree.proofs.{place_at}
use Rattle.rev_tree.proofs.nodes.Nodes.place_near.Goals as goal

pub returns-then-is_of-clause-place : goal.returns-then-is_of-clause-place
returns-then-is_of-clause-place c = sym (place_at c.args.self.now.items c.node_at.ensures.linked.once c.in-Some.place c.node_at.result.now c.args.rev.now c.node_at.ensures.node (sym c.is_of.ensures ∙ c.if-is_of.true))
