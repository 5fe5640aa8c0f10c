use Rattle.proof_prelude.proofs.{ap, arith, length}
use Rattle.couch_base.specs.{DatabaseValue}
use Rattle.repl_peer.specs.{BackupValue, PeerValue}
use Rattle.repl_peer.proofs.{none_seen, Lawful-restored}
use Rattle.repl_peer.proofs.peer.Peer.restore.Goals as goal

pub invariant_of-self : goal.invariant_of-self
invariant_of-self g c =
    let b : BackupValue = record { db = c.backup.inside.db; locals = c.backup.inside.locals; outgoing = c.backup.inside.outgoing } in
    let q : PeerValue = record { db = c.in_ok-db.db; locals = c.copy-locals.result; sessions = c.self.inside.sessions; outgoing = c.in_ok-outgoing.outgoing } in
    let none = none_seen _ _ c.self.view_is c.in_ok-life.ensures.empty in
    let seq = ap (λ (d : DatabaseValue). d.update_seq) c.in_ok-db.ensures.copied in
    record {
      lawful = Lawful-restored (g.F.WriteFilter.refuses c.self.inside.filter) b q none (ap (λ (d : DatabaseValue). d.docs) c.in_ok-db.ensures.copied) c.copy-locals.ensures c.backup.invariant.backup;
      counted = omega (arith, c.backup.invariant.counted, ap length c.copy-locals.ensures, seq);
    }

pub returns-clause-law : goal.returns-clause-law
returns-clause-law g c = (invariant_of-self g c).lawful
