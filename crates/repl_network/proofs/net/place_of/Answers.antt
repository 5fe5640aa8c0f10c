use Rattle.proof_prelude.proofs.{◌≢◌, All, subst, take_all}
use Rattle.repl_network.proofs.{all_at}
use Rattle.repl_network.proofs.net.place_of.Goals as goal

pub returns-clause-none : goal.returns-clause-none
returns-clause-none g c =
    let all = subst (All (λ p. p.1.db.uuid ≢ c.args.uuid)) (take_all c.loop-place.place c.args.peers.now c.loop-place-test.false) c.loop-place.invariant in
    λ held. all_at (λ p. p.db.uuid ≢ c.args.uuid) c.args.peers.now all held.0 held.1 held.2 held.3
