use Rattle.proof_prelude.proofs.{sym, ◌∙◌, arith}
use Rattle.rev_tree.proofs.{fallen_place, fallen_missed, nowhere, place_at, place_known, read_at}
use Rattle.rev_tree.proofs.nodes.fallen_to.Goals as goal

pub returns-then-generation-top : goal.returns-then-generation-top
returns-then-generation-top c =
    sym (nowhere c.args.nodes.now c.args.rev.now (λ j is.
    omega (arith, fallen_place c.args.nodes.now c.args.rev.now j c.index-nodes-0.result c.requires.falls c.index-nodes-0.is is, c.generation-top.ensures.part, c.generation-generation.ensures.part, c.if-generation-top.true)))

pub returns-then-place-nodes : goal.returns-then-place-nodes
returns-then-place-nodes c =
    sym (nowhere c.args.nodes.now c.args.rev.now (λ j is.
    let found = place_known c.args.nodes.now c.args.rev.now j is in
    omega (arith, found.within, fallen_place c.args.nodes.now c.args.rev.now j c.index-nodes-0.result c.requires.falls c.index-nodes-0.is is, c.generation-top.ensures.part, c.generation-generation.ensures.part, c.if-place-nodes.true)))

pub returns-then-is_of : goal.returns-then-is_of
returns-then-is_of c =
    sym (place_at c.args.nodes.now c.requires.once _ c.index-nodes-place.result c.args.rev.now (read_at c.args.nodes.now _ c.index-nodes-place.result c.if-place-nodes.false c.index-nodes-place.is)
    (sym c.is_of.ensures ∙ c.if-is_of.true))

pub returns-else-is_of : goal.returns-else-is_of
returns-else-is_of c =
    sym (fallen_missed c.args.nodes.now c.args.rev.now _ c.index-nodes-0.result c.index-nodes-place.result c.requires.falls c.index-nodes-0.is
    (read_at c.args.nodes.now _ c.index-nodes-place.result c.if-place-nodes.false c.index-nodes-place.is)
    (sym c.is_of.ensures ∙ c.if-is_of.false)
    (omega (arith, c.generation-top.ensures.part, c.generation-generation.ensures.part, c.if-generation-top.false)))
