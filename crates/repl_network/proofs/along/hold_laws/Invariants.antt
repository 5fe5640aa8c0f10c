use Rattle.proof_prelude.proofs.{All, take}
use Rattle.couch_base.specs.{LawfulDatabase}
use Rattle.repl_network.proofs.along.hold_laws.Given as goal

-- the peers so far satisfy it
abbrev pub invariant-loop-peer : goal.invariant-loop-peer
invariant-loop-peer g l = All (λ p. LawfulDatabase p.1.db) (take l.peer-index l.peers)
