use Rattle.proof_prelude.proofs.{◌≡◌, ap}
use Rattle.crossbeam_channel.specs.Claims.{view}
use Rattle.pool_workers.specs.{WindowView}
use Rattle.pool_workers.proofs.WindowRule as window
use Rattle.pool_workers.proofs.reader.send_window.Goals as goal

pub send_as-requires-clause-rule : goal.send_as-requires-clause-rule
send_as-requires-clause-rule g c =
    let v = view c.args.windows.now in
    let reader : v.reads ≡ 1 = ap (λ (y : WindowView). y.reads) c.requires.windows.0 in
    let count : v.count ≡ c.args.number = ap (λ (y : WindowView). y.count) c.requires.windows.0 in
    (window.reads_next _ _ v c.args.number c.args.page reader count c.requires.windows.1, λ _ _ _ _. tt)
