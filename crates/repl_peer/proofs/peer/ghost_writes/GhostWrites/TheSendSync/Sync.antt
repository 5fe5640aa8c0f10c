-- The value owns nothing, so threads may share it.
use denote.Param.Send.{IsSync, part_keyless}
use Rattle.repl_peer.specs.contracts.peer.ghost_writes.GhostWrites.{the_row}
use Rattle.repl_peer.proofs.peer.ghost_writes.GhostWrites.TheSendSync.Send.{send}

pub sync : IsSync the_row
sync = record { shared = λ d b o κ q. part_keyless the_row send q d b o }
