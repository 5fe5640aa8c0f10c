use Rattle.proof_prelude.proofs.{◌<◌, ◌^◌, arith}
use Rattle.repl_peer.proofs.{Lawful-begun}
use Rattle.repl_peer.proofs.peer.Peer.begin.Goals as goal

pub invariant_of-self : goal.invariant_of-self
invariant_of-self g c =
    let fits : c.args.beginning.start < 2 ^ 64 = omega arith in
    record { lawful = Lawful-begun _ _ c.self.invariant.lawful c.args.id c.args.beginning c.args.at fits c.begin.result _ c.begin.ensures.answer c.begin.ensures.ok c.begin.ensures.err; counted = c.self.invariant.counted }

pub returns-clause-law : goal.returns-clause-law
returns-clause-law g c = (invariant_of-self g c).lawful
