use Rattle.proof_prelude.proofs.{arith}
use Rattle.repl_network.specs.{no_source, no_target, one_place, refused, taken}
use Rattle.repl_network.proofs.along.take_hop.Goals as goal

pub returns-in-Ok-clause-taken : goal.returns-in-Ok-clause-taken
returns-in-Ok-clause-taken g c = taken c.in-Ok.ensures.hop

pub returns-in-Err-clause-taken : goal.returns-in-Err-clause-taken
returns-in-Err-clause-taken g c = refused c.in-Err.ensures.hop

pub returns-then-hop-peers-clause-taken : goal.returns-then-hop-peers-clause-taken
returns-then-hop-peers-clause-taken g c = no_source (omega (arith, c.if-hop-peers.true))

pub returns-then-hop-peers-2-clause-taken : goal.returns-then-hop-peers-2-clause-taken
returns-then-hop-peers-2-clause-taken g c = no_target (omega (arith, c.if-hop-peers.false)) (omega (arith, c.if-hop-peers-2.true))

pub returns-then-hop-clause-taken : goal.returns-then-hop-clause-taken
returns-then-hop-clause-taken g c = one_place (omega (arith, c.if-hop-peers.false)) c.if-hop.true
