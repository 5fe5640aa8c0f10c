-- The value owns nothing, so threads may share it.
use denote.Param.Send.{IsSync, part_keyless}
use Rattle.repl_peer.specs.contracts.session.ghost_rows.GhostRows.{the_row}
use Rattle.repl_peer.proofs.session.ghost_rows.GhostRows.TheSendSync.Send.{send}

pub sync : IsSync the_row
sync = record { shared = λ d b o κ q. part_keyless the_row send q d b o }
