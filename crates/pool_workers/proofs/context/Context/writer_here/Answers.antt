use Rattle.pool_workers.proofs.ParcelRule as parcel
use Rattle.pool_workers.proofs.context.Context.writer_here.Goals as goal

pub another-its_parcels-requires-clause-rule : goal.another-its_parcels-requires-clause-rule
another-its_parcels-requires-clause-rule g c = parcel.forks _ _ c.requires.parcels.1
