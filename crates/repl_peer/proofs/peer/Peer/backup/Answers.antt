use Rattle.proof_prelude.proofs.{ap, arith, length}
use Rattle.couch_base.specs.{DatabaseValue}
use Rattle.repl_peer.specs.{BackupValue, PeerValue}
use Rattle.repl_peer.proofs.{no_sessions, IsBackup-copied}
use Rattle.repl_peer.proofs.peer.Peer.backup.Goals as goal

pub invariant_of-result : goal.invariant_of-result
invariant_of-result g c =
    let p : PeerValue = record { db = c.self.inside.db; locals = c.self.inside.locals; sessions = c.self.inside.sessions; outgoing = c.self.inside.outgoing } in
    let b : BackupValue = record { db = c.in_ok-db.db; locals = c.copy-locals.result; outgoing = c.in_ok-outgoing.outgoing } in
    let seq = ap (λ (d : DatabaseValue). d.update_seq) c.in_ok-db.ensures.copied in
    record {
      backup = IsBackup-copied p b (no_sessions c.self.inside.sessions c.len.result c.len.ensures c.if-len-gt0.false) c.in_ok-db.ensures.copied c.copy-locals.ensures c.self.invariant.origins c.self.invariant.locals;
      counted = omega (arith, c.self.invariant.counted, ap length c.copy-locals.ensures, seq);
    }
