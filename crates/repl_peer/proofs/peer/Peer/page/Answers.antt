use Rattle.proof_prelude.proofs.{rules}
use Rattle.repl_peer.proofs.peer.Peer.page.Goals as goal

pub returns : goal.returns
returns g c = search rules
