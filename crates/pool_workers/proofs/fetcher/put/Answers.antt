use Rattle.pool_workers.proofs.{sends}
use Rattle.pool_workers.specs.declared.parcels.ParcelMessage.TheVariants.{Parcel}
use Rattle.pool_workers.proofs.fetcher.put.Goals as goal

pub send_as-requires-clause-rule : goal.send_as-requires-clause-rule
send_as-requires-clause-rule g c = (sends _ _ _ (Parcel c.args.number c.args.fetched) c.requires.part, λ _ _ _ _. tt)
