use Rattle.repl_peer.proofs.{start_recorded}
use Rattle.repl_peer.proofs.session.Session.record.Goals as goal

pub invariant_of-self : goal.invariant_of-self
invariant_of-self c = record {
  front = c.self.invariant.front;
  bounds = c.self.invariant.bounds;
  start = start_recorded c.self.inside.front.front c.low_water-mark.result c.self.invariant.front c.low_water-mark.ensures.value;
  read = c.self.invariant.read;
  thinned = c.self.invariant.thinned;
}
