use Rattle.repl_peer.proofs.{Lawful-loaded}
use Rattle.repl_peer.proofs.peer.Peer.load.Goals as goal

pub invariant_of-self : goal.invariant_of-self
invariant_of-self g c = record {
  lawful = Lawful-loaded _ _ c.self.invariant.lawful c.args.doc.now c.load.result _ _ c.load.ensures.db c.load.ensures.locals c.load.ensures.db_kept c.load.ensures.locals_kept;
  counted = c.load.ensures.counted;
}

pub returns-clause-law : goal.returns-clause-law
returns-clause-law g c = (invariant_of-self g c).lawful
