use Rattle.pool_workers.proofs.WindowRule as window
use Rattle.pool_workers.proofs.ParcelRule as parcel
use Rattle.pool_workers.proofs.context.Context.fetcher_here.Goals as goal

pub another-its_windows-requires-clause-rule : goal.another-its_windows-requires-clause-rule
another-its_windows-requires-clause-rule g c = window.forks _ _ c.requires.windows.1

pub another-its_parcels-requires-clause-rule : goal.another-its_parcels-requires-clause-rule
another-its_parcels-requires-clause-rule g c = parcel.forks _ _ c.requires.parcels.1
