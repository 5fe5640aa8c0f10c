use Rattle.proof_prelude.proofs.{arith}
use Rattle.repl_peer.proofs.{among_next}
use Rattle.repl_peer.proofs.session.ledger_index.add_revs.Goals as goal

pub loop-rev-preserved : goal.loop-rev-preserved
loop-rev-preserved c = record {
  added = λ r. among_next c.args.known.now.keys c.loop-rev.known.keys c.insert.new.self.keys c.args.revs.now c.loop-rev.rev-index c.rev-item.result r _ c.loop-rev-test.true c.rev-item.is c.in_ok-insert.ensures.keys (c.loop-rev.invariant.added r);
  room = omega arith;
}
