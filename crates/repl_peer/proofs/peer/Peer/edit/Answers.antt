use Rattle.repl_peer.proofs.{Lawful-edited}
use Rattle.repl_peer.proofs.peer.Peer.edit.Goals as goal

pub invariant_of-self : goal.invariant_of-self
invariant_of-self g c = record {
  lawful = Lawful-edited _ _ c.self.invariant.lawful c.args.id.now c.args.parent c.args.deleted c.args.body.now c.edit.result _ _ c.edit.ensures.db c.edit.ensures.locals c.edit.ensures.db_kept c.edit.ensures.locals_kept;
  counted = c.edit.ensures.counted;
}

pub returns-clause-law : goal.returns-clause-law
returns-clause-law g c = (invariant_of-self g c).lawful
