use Rattle.proof_prelude.proofs.{◌≢◌, All, take}
use Rattle.repl_network.proofs.net.place_of.Given as goal

-- none of the peers so far has the UUID
abbrev pub invariant-loop-place : goal.invariant-loop-place
invariant-loop-place g l = All (λ p. p.1.db.uuid ≢ l.uuid) (take l.place l.peers)
