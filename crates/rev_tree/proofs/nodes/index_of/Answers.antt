use Rattle.proof_prelude.proofs.{sym, ap, ◌∙◌, arith}
use Rattle.rev_tree.specs.{falls, revs_in}
use Rattle.rev_tree.proofs.{all_behind, index_fallen, index_few, length-revs_in}
use Rattle.rev_tree.proofs.nodes.index_of.Goals as goal

pub returns-then-nodes-le-MOST_WALKED-clause-entries : goal.returns-then-nodes-le-MOST_WALKED-clause-entries
returns-then-nodes-le-MOST_WALKED-clause-entries c =
    let nodes = c.args.nodes.now in
    c.new-places.ensures.entries ∙ sym (index_few (revs_in nodes) (omega (arith, length-revs_in nodes, c.if-nodes-le-MOST_WALKED.true)))

pub returns-then-falls_from-clause-entries : goal.returns-then-falls_from-clause-entries
returns-then-falls_from-clause-entries c =
    let revs = revs_in c.args.nodes.now in
    c.new-places.ensures.entries ∙ sym (index_fallen revs (ap falls (sym (all_behind revs)) ∙ sym c.falls_from.ensures ∙ c.if-falls_from.true))
