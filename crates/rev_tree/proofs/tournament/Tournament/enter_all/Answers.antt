use Rattle.proof_prelude.proofs.{◌<◌, length, is_some, refl, sym, ap, ◌∙◌, subst, arith}
use Rattle.rev_tree.specs.{IsPlayed}
use Rattle.rev_tree.proofs.{entered_leaf, entered_parent, is_some-copied, read_at}
use Rattle.rev_tree.proofs.tournament.Tournament.enter_all.Goals as goal
use Rattle.rev_tree.proofs.tournament.Tournament.enter_all.Goals.{then-has_child, else-has_child+then-is_some}

pub replay-requires-clause-played : goal.replay-requires-clause-played
replay-requires-clause-played c =
    let nodes = c.args.nodes.now in
    let ws = c.loop-place.self.winners.items in
    let place = c.loop-place.place in
    let n = c.index-nodes-place-else-has_child.result in
    let low : place < length nodes = omega arith in
    let fits : place < length ws = omega (arith, low, c.loop-place.invariant.all) in
    let played = subst (λ e. IsPlayed nodes ws e 0) c.loop-place.invariant.entered c.loop-place.invariant.played in
    entered_leaf nodes ws place n played fits (read_at nodes place n low c.index-nodes-place-else-has_child.is)
    (ap is_some (sym c.content.ensures) ∙ sym (is_some-copied c.content.result) ∙ sym c.is_some.ensures ∙ c.if-is_some.true)

pub loop-place-preserved : goal.loop-place-preserved
loop-place-preserved c =
    let nodes = c.args.nodes.now in
    let ws = c.loop-place.self.winners.items in
    let place = c.loop-place.place in
    let n = c.index-nodes-place.result in
    let low : place < length nodes = omega arith in
    let fits : place < length ws = omega (arith, low, c.loop-place.invariant.all) in
    let played = subst (λ e. IsPlayed nodes ws e 0) c.loop-place.invariant.entered c.loop-place.invariant.played in
    elim c.if-has_child.branch [
      | then-has_child w ↦ rw w.self-is (record {
        played = entered_parent nodes ws place n played fits (read_at nodes place n low c.index-nodes-place.is) (sym c.has_child.ensures ∙ w.if-has_child.true);
        entered = refl;
        all = c.loop-place.invariant.all;
        matches = c.loop-place.invariant.matches;
      })
      | else-has_child+then-is_some w ↦ rw w.self-is (record {
        played = w.replay.ensures.played;
        entered = w.replay.ensures.entered;
        all = omega (arith, w.replay.ensures.matches, c.loop-place.invariant.all);
        matches = omega (arith, w.replay.ensures.matches, c.loop-place.invariant.matches);
      })
    ]
