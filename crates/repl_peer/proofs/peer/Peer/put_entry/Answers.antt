use Rattle.repl_peer.proofs.{Lawful-logs}
use Rattle.repl_peer.proofs.peer.Peer.put_entry.Goals as goal

pub invariant_of-self : goal.invariant_of-self
invariant_of-self g c = record { lawful = Lawful-logs _ _ c.put.new.self c.self.invariant.lawful; counted = c.self.invariant.counted }

pub invariant_of-self-2 : goal.invariant_of-self-2
invariant_of-self-2 g c = record { lawful = Lawful-logs _ _ c.put.new.self c.self.invariant.lawful; counted = c.self.invariant.counted }

pub returns-clause-law : goal.returns-clause-law
returns-clause-law g c = (invariant_of-self-2 g c).lawful
