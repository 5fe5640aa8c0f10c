use Rattle.proof_prelude.proofs.{◌<◌, ap, arith}
use Rattle.crossbeam_channel.specs.Claims.{view}
use Rattle.pool_workers.specs.{ParcelView}
use Rattle.pool_workers.proofs.{sends}
use Rattle.pool_workers.proofs.fetcher.Fetcher.tell_end.Goals as goal

pub send_as-requires-clause-rule : goal.send_as-requires-clause-rule
send_as-requires-clause-rule g c =
    let part : 0 < (view c.args.self.now.parcels).parts = let e = ap (λ (y : ParcelView). y.parts) c.requires.knows.1 in omega (arith, e) in
    (sends _ _ _ _ part, λ _ _ _ _. tt)
