use Rattle.proof_prelude.proofs.{length, sym, rules, ◌≡◌, get_or, ap, arith}
use Rattle.rev_tree.specs.{revs_in, unless_among}
use Rattle.rev_tree.proofs.{all_new, count_next}
use Rattle.rev_tree.proofs.nodes.count_new.Goals as goal

pub loop-rev-preserved : goal.loop-rev-preserved
loop-rev-preserved c =
    let known = revs_in c.args.nodes.now in
    let revs = c.args.revs.now in
    let i = c.loop-rev.rev-index in
    let r = c.rev-item.result in
    let here : unless_among known r ≡ unless_among known (get_or revs i r) = ap (unless_among known) c.rev-item.is in
    record {
      counted = omega (arith, c.loop-rev.invariant.counted, c.once_new-count.ensures.new, count_next known revs i r c.loop-rev-test.true, here);
      few = omega (arith, c.loop-rev.invariant.few, c.once_new-count.ensures.most);
    }

pub returns-then-is_empty : goal.returns-then-is_empty
returns-then-is_empty c =
    let none : length c.args.nodes.now ≡ 0 = search rules in
    sym (all_new c.args.nodes.now c.args.revs.now none)
