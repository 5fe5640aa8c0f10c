use Rattle.proof_prelude.proofs.{◌≡◌, drop}
use Rattle.repl_peer.specs.{first_unknown, known_of}
use Rattle.repl_peer.proofs.session.rows.first_unknown.Given as goal

-- none of the rows so far has an unknown leaf
abbrev pub invariant-loop-row : goal.invariant-loop-row
invariant-loop-row l = first_unknown (known_of l.db l.ledgered) (drop l.row-index l.rows) ≡ first_unknown (known_of l.db l.ledgered) l.rows
