use Rattle.proof_prelude.proofs.{[], ◌∷◌, ◌++◌, ap, ◌∙◌, refl, arith}
use Rattle.couch_base.proofs.{one_more}
use Rattle.couch_base.proofs.copies.copied.Goals as goal

pub loop-item-preserved : goal.loop-item-preserved
loop-item-preserved g c =
    let l = c.loop-item in
    let same = c.requires.same c.item-item.result c.in_ok-again.again (record { shown = _; shows = refl; says = record { met = c.in_ok-again.ensures } }) in
    c.in_ok-push.ensures.items ∙ ap (λ r. l.copies.items ++ r ∷ []) same
    ∙ one_more c.args.items.now l.copies.items l.item-index c.item-item.result (omega arith) c.item-item.is l.invariant
