use Rattle.proof_prelude.proofs.{◌+◌, [], ◌∷◌, ◌++◌, ap, ◌∙◌}
use Rattle.repl_network.specs.{gathers, into_hub, out_of_hub}
use Rattle.repl_network.proofs.{plans_next}
use Rattle.repl_network.proofs.hub.hub_hops.Goals as goal

pub loop-place-preserved : goal.loop-place-preserved
loop-place-preserved c =
    let l = c.loop-place in
    c.in_ok-push.ensures.items ∙ ap (λ plan. l.hops.items ++ into_hub (l.place + 1) plan ∷ []) c.in_ok-copy.ensures.copied
    ∙ plans_next into_hub c.args.there.now l.place [] c.index-there-place.result l.hops.items c.loop-place-test.true c.index-there-place.is l.invariant

pub loop-place-2-preserved : goal.loop-place-2-preserved
loop-place-2-preserved c =
    let l = c.loop-place-2 in
    c.in_ok-push-2.ensures.items ∙ ap (λ plan. l.hops.items ++ out_of_hub (l.place + 1) plan ∷ []) c.in_ok-copy-2.ensures.copied
    ∙ plans_next out_of_hub c.args.back.now l.place (gathers 0 c.args.there.now) c.index-back-place.result l.hops.items c.loop-place-2-test.true c.index-back-place.is l.invariant
