use Rattle.proof_prelude.proofs.{◌≡◌, ◌+◌, ◌-◌, ◌&&◌, drop, sym, ap, ◌∙◌, arith}
use Rattle.rev_tree.specs.{falls, revs_in}
use Rattle.rev_tree.proofs.{falls_end, nodes_step, length-revs_in}
use Rattle.rev_tree.proofs.nodes.falls_from.Goals as goal

pub loop-i-init : goal.loop-i-init
loop-i-init c = let same : c.args.first ≡ c.args.first + 1 - 1 = omega arith in ap (λ k. falls (drop k (revs_in c.args.nodes.now))) same

pub loop-i-preserved : goal.loop-i-preserved
loop-i-preserved c =
    let nodes = c.args.nodes.now in
    let i = c.loop-i.i in
    let same : i ≡ i + 1 - 1 = omega arith in
    c.loop-i.invariant
    ∙ nodes_step nodes i c.index-nodes-i.result c.index-nodes-i-in-loop-i.result (omega arith) c.loop-i-test.true c.index-nodes-i.is c.index-nodes-i-in-loop-i.is
    ∙ ap (λ b. b && falls (drop i (revs_in nodes))) (sym c.is_below.ensures ∙ c.if-not-is_below.false)
    ∙ ap (λ k. falls (drop k (revs_in nodes))) same

pub returns-then-not-is_below : goal.returns-then-not-is_below
returns-then-not-is_below c =
    let nodes = c.args.nodes.now in
    let i = c.loop-i.i in
    sym (c.loop-i.invariant
    ∙ nodes_step nodes i c.index-nodes-i.result c.index-nodes-i-in-loop-i.result (omega arith) c.loop-i-test.true c.index-nodes-i.is c.index-nodes-i-in-loop-i.is
    ∙ ap (λ b. b && falls (drop i (revs_in nodes))) (sym c.is_below.ensures ∙ c.if-not-is_below.true))

pub returns : goal.returns
returns c = sym (c.loop-i.invariant ∙ falls_end (revs_in c.args.nodes.now) (c.loop-i.i - 1) (omega (arith, c.loop-i-test.false, length-revs_in c.args.nodes.now)))
