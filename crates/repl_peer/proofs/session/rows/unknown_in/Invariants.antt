use Rattle.proof_prelude.proofs.{◌≡◌, not, drop, find}
use Rattle.repl_peer.specs.{known_of}
use Rattle.repl_peer.proofs.session.rows.unknown_in.Given as goal

-- none of the leaves so far is unknown
abbrev pub invariant-loop-rev : goal.invariant-loop-rev
invariant-loop-rev l =
    find (λ rev. not (known_of l.db l.ledgered l.row.id rev)) (drop l.rev-index l.rev-items) ≡ find (λ rev. not (known_of l.db l.ledgered l.row.id rev)) l.rev-items
