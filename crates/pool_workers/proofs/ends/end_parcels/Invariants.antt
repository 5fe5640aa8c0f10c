use Rattle.proof_prelude.proofs.{◌≡◌}
use Rattle.crossbeam_channel.specs.Claims.{view, IsSeatAt}
use Rattle.crossbeam_channel.specs.Ends.{sends_on}
use Rattle.pool_workers.proofs.ends.end_parcels.Given as goal

abbrev pub invariant-loop-i : goal.invariant-loop-i
invariant-loop-i g l = IsSeatAt (sends_on l.channels.to_writers) l.parcels × (view l.parcels ≡ view l.initial.parcels)
