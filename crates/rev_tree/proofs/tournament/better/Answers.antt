use Rattle.proof_prelude.proofs.{◌-◌, sym, ◌∙◌, arith}
use Rattle.rev_tree.proofs.{alone, entry_at, one_wins, other_alone, other_wins, read_at}
use Rattle.rev_tree.proofs.tournament.better.Goals as goal

pub returns-then-other-eq0 : goal.returns-then-other-eq0
returns-then-other-eq0 c = alone c.args.nodes.now c.args.one c.args.other c.if-other-eq0.true

pub returns-then-one-eq0 : goal.returns-then-one-eq0
returns-then-one-eq0 c = other_alone c.args.nodes.now c.args.one c.args.other c.if-one-eq0.true

pub returns-then-goes_before : goal.returns-then-goes_before
returns-then-goes_before c =
    let nodes = c.args.nodes.now in
    other_wins nodes c.args.one c.args.other c.index-nodes-one.result c.index-nodes-other.result
    (entry_at nodes c.args.one (c.args.one - 1) c.index-nodes-one.result (omega arith) (read_at nodes (c.args.one - 1) c.index-nodes-one.result (omega arith) c.index-nodes-one.is))
    (entry_at nodes c.args.other (c.args.other - 1) c.index-nodes-other.result (omega arith) (read_at nodes (c.args.other - 1) c.index-nodes-other.result (omega arith) c.index-nodes-other.is))
    (sym c.goes_before.ensures ∙ c.if-goes_before.true)

pub returns-else-goes_before : goal.returns-else-goes_before
returns-else-goes_before c =
    let nodes = c.args.nodes.now in
    one_wins nodes c.args.one c.args.other c.index-nodes-one.result c.index-nodes-other.result
    (entry_at nodes c.args.one (c.args.one - 1) c.index-nodes-one.result (omega arith) (read_at nodes (c.args.one - 1) c.index-nodes-one.result (omega arith) c.index-nodes-one.is))
    (entry_at nodes c.args.other (c.args.other - 1) c.index-nodes-other.result (omega arith) (read_at nodes (c.args.other - 1) c.index-nodes-other.result (omega arith) c.index-nodes-other.is))
    (sym c.goes_before.ensures ∙ c.if-goes_before.false)
