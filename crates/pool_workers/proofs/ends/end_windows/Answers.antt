use Rattle.proof_prelude.proofs.{◌<◌, subst, sym}
use Rattle.crossbeam_channel.specs.Claims.{view}
use Rattle.pool_workers.specs.{WindowView}
use Rattle.pool_workers.proofs.WindowRule as window
use Rattle.pool_workers.proofs.ends.end_windows.Goals as goal

pub send_as-requires-clause-rule : goal.send_as-requires-clause-rule
send_as-requires-clause-rule g c =
    let v = view c.loop-i.windows in
    let part : 0 < v.parts = subst (λ (y : WindowView). 0 < y.parts) (sym c.loop-i.invariant.1) c.requires.seat.1 in
    (window.tells_end _ _ v part, λ _ _ _ _. tt)
