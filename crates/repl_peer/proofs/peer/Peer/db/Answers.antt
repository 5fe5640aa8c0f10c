use Rattle.repl_peer.proofs.{honest_is, trusted_is}
use Rattle.repl_peer.proofs.peer.Peer.db.Goals as goal

pub returns-clause-honest : goal.returns-clause-honest
returns-clause-honest g c = rw (← c.self.view_is) (honest_is _ _ c.self.invariant.sessions)

pub returns-clause-trusted : goal.returns-clause-trusted
returns-clause-trusted g c = rw (← c.self.view_is) (trusted_is _ _ c.self.invariant.sessions c.self.invariant.origins)
