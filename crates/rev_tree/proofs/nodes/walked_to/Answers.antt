use Rattle.proof_prelude.proofs.{sym, ap, ◌∙◌, eq_by_cmp}
use Rattle.rev_core.specs.{rev_cmp}
use Rattle.rev_tree.specs.{NodeValue}
use Rattle.rev_tree.proofs.{walk_here, walk_later, walk_end}
use Rattle.rev_tree.proofs.nodes.walked_to.Goals as goal

pub returns-then-is_of : goal.returns-then-is_of
returns-then-is_of c = sym (c.loop-i.invariant ∙ walk_here c.args.nodes.now c.loop-i.i c.index-nodes-i.result c.args.rev.now c.loop-i-test.true (ap (λ (n : NodeValue). eq_by_cmp rev_cmp c.args.rev.now n.rev) (sym c.index-nodes-i.is) ∙ sym c.is_of.ensures ∙ c.if-is_of.true))

pub loop-i-preserved : goal.loop-i-preserved
loop-i-preserved c = c.loop-i.invariant ∙ walk_later c.args.nodes.now c.loop-i.i c.index-nodes-i.result c.args.rev.now c.loop-i-test.true (ap (λ (n : NodeValue). eq_by_cmp rev_cmp c.args.rev.now n.rev) (sym c.index-nodes-i.is) ∙ sym c.is_of.ensures ∙ c.if-is_of.false)

pub returns : goal.returns
returns c = sym (c.loop-i.invariant ∙ walk_end c.args.nodes.now c.loop-i.i c.args.rev.now c.loop-i-test.false)
