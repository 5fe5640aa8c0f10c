-- The value owns nothing, so any thread may receive it.
use denote.Param.Send.{IsSend, owning_send}
use Rattle.repl_peer.specs.contracts.session.ghost_rows.GhostRows.{the_row, the_type}

pub send : IsSend the_row
send = owning_send the_type tt (λ d. tt) (λ k x w. tt)
