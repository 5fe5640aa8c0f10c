use Rattle.proof_prelude.proofs.{◌≡◌, not, drop, find}
use Rattle.repl_peer.specs.{covers}
use Rattle.repl_peer.proofs.peer.Peer.uncovered_in.Given as goal

-- each of the leaves so far is covered
abbrev pub invariant-loop-rev : goal.invariant-loop-rev
invariant-loop-rev g l =
    find (λ rev. not (covers l.self.1 l.change.id rev)) (drop l.rev-index l.rev-items) ≡ find (λ rev. not (covers l.self.1 l.change.id rev)) l.rev-items
