use Rattle.repl_peer.proofs.{Lawful-concluded}
use Rattle.repl_peer.proofs.peer.Peer.conclude.Goals as goal

pub invariant_of-self : goal.invariant_of-self
invariant_of-self g c = record { lawful = Lawful-concluded _ _ c.self.invariant.lawful c.args.id c.args.at _ c.conclude.ensures.sessions; counted = c.self.invariant.counted }

pub returns-clause-law : goal.returns-clause-law
returns-clause-law g c = (invariant_of-self g c).lawful
