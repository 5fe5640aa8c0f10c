use Rattle.proof_prelude.proofs.{◌≡◌, ◌-◌, drop, length}
use Rattle.repl_peer.specs.{sessions_of, log_of, listed}
use Rattle.repl_peer.proofs.session.sessions.Sessions.log.Given as goal

-- the entries of the oldest sessions so far
abbrev pub invariant-loop-i : goal.invariant-loop-i
invariant-loop-i l = l.log ≡ drop (length (listed l.self-inside.by_rep l.rep) - l.i) (log_of (sessions_of l.self-inside.entries.entries) l.rep)
