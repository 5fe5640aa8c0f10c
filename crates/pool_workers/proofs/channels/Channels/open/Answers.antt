use Rattle.pool_workers.proofs.WindowRule as window
use Rattle.pool_workers.proofs.ParcelRule as parcel
use Rattle.pool_workers.proofs.channels.Channels.open.Goals as goal

pub bounded_with-requires-clause-rule : goal.bounded_with-requires-clause-rule
bounded_with-requires-clause-rule g c = window.windows_begin g.row.S.Denot

pub bounded_with-requires-2-clause-rule : goal.bounded_with-requires-2-clause-rule
bounded_with-requires-2-clause-rule g c = parcel.parcels_begin g.row.S.Denot
