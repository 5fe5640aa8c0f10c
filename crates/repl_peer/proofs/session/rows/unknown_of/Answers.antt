use Rattle.proof_prelude.proofs.{sym}
use Rattle.repl_peer.proofs.session.rows.unknown_of.Goals as goal

pub returns-then-brings_all : goal.returns-then-brings_all
returns-then-brings_all c = sym (c.brings_all.ensures c.if-brings_all.true c.args.db.now c.args.ledgered.now c.requires)
