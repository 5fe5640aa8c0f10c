use Rattle.proof_prelude.proofs.{[], ◌∷◌, ◌++◌, ap, ◌∙◌, arith}
use Rattle.couch_base.proofs.{one_more_of}
use Rattle.couch_base.proofs.exchange.add_revs.Goals as goal

pub loop-rev-preserved : goal.loop-rev-preserved
loop-rev-preserved c =
    let l = c.loop-rev in
    c.in_ok-push.ensures.items ∙ ap (λ id. l.gone.items ++ (id, c.rev-item.result) ∷ []) c.in_ok-again.ensures.copied
    ∙ one_more_of (λ r. (c.args.id.now, r)) c.args.revs.now c.args.gone.now.items l.gone.items l.rev-index c.rev-item.result (omega arith) c.rev-item.is l.invariant
