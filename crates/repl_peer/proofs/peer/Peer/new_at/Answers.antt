use Rattle.proof_prelude.proofs.{rules}
use Rattle.repl_peer.proofs.peer.Peer.new_at.Goals as goal

pub returns-clause-answer : goal.returns-clause-answer
returns-clause-answer g c = search rules
