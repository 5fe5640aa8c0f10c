use Rattle.proof_prelude.proofs.{◌<◌, ap, arith}
use Rattle.crossbeam_channel.specs.Claims.{view}
use Rattle.pool_workers.specs.{WindowView}
use Rattle.pool_workers.proofs.{takes}
use Rattle.pool_workers.proofs.context.Context.take_window.Goals as goal

pub recv_as-requires-clause-rule : goal.recv_as-requires-clause-rule
recv_as-requires-clause-rule g c =
    let part : 0 < (view c.args.fetcher.now.windows).parts = let e = ap (λ (y : WindowView). y.parts) c.requires.knows.0 in omega (arith, e) in
    (takes _ _ part, λ _ _ _ _. tt)
