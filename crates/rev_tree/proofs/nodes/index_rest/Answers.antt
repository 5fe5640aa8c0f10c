use Rattle.proof_prelude.proofs.{length, take, sym, ap, ◌∙◌, arith, length-take, take-map}
use Rattle.rev_tree.specs.{falls, NodeValue, revs_in}
use Rattle.rev_tree.proofs.{none_first, stays_unfallen, index_empty, index_fallen, index_few, index_gone, index_held, index_many, length-revs_in}
use Rattle.rev_tree.proofs.nodes.index_rest.Goals as goal

pub returns-then-nodes-le-MOST_WALKED-clause-index : goal.returns-then-nodes-le-MOST_WALKED-clause-index
returns-then-nodes-le-MOST_WALKED-clause-index c =
    let nodes = c.args.nodes.now in
    let before = take c.args.known nodes in
    c.requires.begun
    ∙ index_few (revs_in before) (omega (arith, length-revs_in before, length-take c.args.known nodes, c.if-nodes-le-MOST_WALKED.true))
    ∙ sym (index_few (revs_in nodes) (omega (arith, length-revs_in nodes, c.if-nodes-le-MOST_WALKED.true)))

pub index_from-requires-clause-begun : goal.index_from-requires-clause-begun
index_from-requires-clause-begun c =
    let revs = revs_in (take c.args.known c.args.nodes.now) in
    let held = index_held revs c.args.places.now.entries c.requires.begun (sym c.is_empty.ensures ∙ c.if-not-is_empty.true) in
    c.requires.begun ∙ index_many revs held.0 held.1

pub returns-then-not-is_empty-clause-index : goal.returns-then-not-is_empty-clause-index
returns-then-not-is_empty-clause-index c =
    let nodes = c.args.nodes.now in
    let held = index_held (revs_in (take c.args.known nodes)) c.args.places.now.entries c.requires.begun (sym c.is_empty.ensures ∙ c.if-not-is_empty.true) in
    c.index_from.ensures.index
    ∙ sym (index_many (revs_in nodes) (omega (arith, length-revs_in nodes, c.if-nodes-le-MOST_WALKED.false)) (stays_unfallen nodes c.args.known held.1))

pub all_fall-requires-clause-fall : goal.all_fall-requires-clause-fall
all_fall-requires-clause-fall c many =
    let nodes = c.args.nodes.now in
    let before = take c.args.known nodes in
    let gone = index_gone (revs_in before) c.args.places.now.entries c.requires.begun (sym c.is_empty.ensures ∙ c.if-not-is_empty.false) in
    ap falls (take-map (λ (n : NodeValue). n.rev) c.args.known nodes)
    ∙ index_empty (revs_in before) (omega (arith, many, c.requires.known, length-revs_in before, length-take c.args.known nodes)) (ap length gone)

pub returns-then-all_fall-clause-index : goal.returns-then-all_fall-clause-index
returns-then-all_fall-clause-index c =
    let nodes = c.args.nodes.now in
    let revs = revs_in (take c.args.known nodes) in
    c.requires.begun ∙ index_gone revs c.args.places.now.entries c.requires.begun (sym c.is_empty.ensures ∙ c.if-not-is_empty.false)
    ∙ sym (index_fallen (revs_in nodes) (sym c.all_fall.ensures ∙ c.if-all_fall.true))

pub index_from-requires-2-clause-begun : goal.index_from-requires-2-clause-begun
index_from-requires-2-clause-begun c =
    let nodes = c.args.nodes.now in
    let revs = revs_in (take c.args.known nodes) in
    c.requires.begun ∙ index_gone revs c.args.places.now.entries c.requires.begun (sym c.is_empty.ensures ∙ c.if-not-is_empty.false)
    ∙ none_first nodes

pub returns-clause-index : goal.returns-clause-index
returns-clause-index c =
    let nodes = c.args.nodes.now in
    c.index_from-2.ensures.index
    ∙ sym (index_many (revs_in nodes) (omega (arith, length-revs_in nodes, c.if-nodes-le-MOST_WALKED.false)) (sym c.all_fall.ensures ∙ c.if-all_fall.false))
