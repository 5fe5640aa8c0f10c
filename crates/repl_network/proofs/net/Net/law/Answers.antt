use Rattle.repl_network.specs.{peers_of}
use Rattle.repl_network.proofs.{made_agree}
use Rattle.repl_network.proofs.net.Net.law.Goals as goal

pub returns-clause-agree : goal.returns-clause-agree
returns-clause-agree g c = made_agree (peers_of c.args.self.now)
