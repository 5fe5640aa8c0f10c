use Rattle.proof_prelude.proofs.{◌<◌, subst, sym}
use Rattle.crossbeam_channel.specs.Claims.{view}
use Rattle.pool_workers.specs.{ParcelView}
use Rattle.pool_workers.specs.declared.parcels.ParcelMessage.TheVariants.{End}
use Rattle.pool_workers.proofs.ParcelRule as parcel
use Rattle.pool_workers.proofs.ends.end_parcels.Goals as goal

pub send_as-requires-clause-rule : goal.send_as-requires-clause-rule
send_as-requires-clause-rule g c =
    let v = view c.loop-i.parcels in
    let part : 0 < v.parts = subst (λ (y : ParcelView). 0 < y.parts) (sym c.loop-i.invariant.1) c.requires.seat.1 in
    (parcel.sends _ _ v End part, λ _ _ _ _. tt)
