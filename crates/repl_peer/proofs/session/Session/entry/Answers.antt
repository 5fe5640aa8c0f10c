use Rattle.proof_prelude.proofs.{rules}
use Rattle.repl_peer.proofs.session.Session.entry.Goals as goal

pub returns : goal.returns
returns c = search rules
