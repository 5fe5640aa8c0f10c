use Rattle.proof_prelude.proofs.{◌≡◌, ◌-◌, ◌<◌, suc, length, get_or, get_or_from_slice_get, sym, ◌∙◌, arith}
use Rattle.rev_tree.proofs.{best_leaf, read_at}
use Rattle.rev_tree.proofs.tournament.Tournament.first.Goals as goal

pub returns-then-not-has_child-clause-first : goal.returns-then-not-has_child-clause-first
returns-then-not-has_child-clause-first c =
    let nodes = c.args.nodes.now in
    let ws = c.loop.self.winners.items in
    let n = c.index-nodes-winner.result in
    let w = c.index.result.now in
    let many : 1 < length ws = omega (arith, c.loop.invariant.matches) in
    let stored : get_or ws 1 0 ≡ w = get_or_from_slice_get ws 1 w 0 (read_at ws 1 w many c.index.ensures) in
    let some : w ≡ suc (w - 1) = omega arith in
    let low : w - 1 < length nodes = omega (arith, stored, some, c.loop.invariant.played.held.places 1, c.loop.invariant.entered) in
    best_leaf nodes ws c.loop.self.entered c.loop.invariant.played c.loop.invariant.matches c.loop.invariant.entered (w - 1) n
    (stored ∙ some) (read_at nodes (w - 1) n low c.index-nodes-winner.is) (sym c.has_child.ensures ∙ c.if-not-has_child.true)
