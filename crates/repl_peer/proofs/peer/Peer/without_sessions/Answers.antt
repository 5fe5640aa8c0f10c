use Rattle.proof_prelude.proofs.{◌≡◌, arith, ap, length}
use Rattle.repl_peer.specs.{new_peer_at}
use Rattle.repl_peer.proofs.{Lawful-new}
use Rattle.repl_peer.proofs.peer.Peer.without_sessions.Goals as goal

pub invariant_of-result : goal.invariant_of-result
invariant_of-result g c =
    let new : record { db = c.args.db; locals = c.new.result; sessions = c.new-2.result; outgoing = c.new-3.result } ≡ new_peer_at c.args.db.uuid c.args.db.update_seq = λ i. record {
      db = c.requires i;
      locals = c.new.ensures i;
      sessions = c.new-2.ensures i;
      outgoing = c.new-3.ensures i;
    } in
    record { lawful = Lawful-new _ c.args.db.uuid c.args.db.update_seq _ new; counted = omega (arith, ap length c.new.ensures) }

pub returns-clause-law : goal.returns-clause-law
returns-clause-law g c = (invariant_of-result g c).lawful
