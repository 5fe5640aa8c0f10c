-- no session so far is shared, so the remaining ones decide
use Rattle.proof_prelude.proofs.{◌≡◌, ◌≤◌, ◌-◌, drop, length}
use Rattle.repl_log.specs.{common}
use Rattle.repl_peer.specs.{sessions_of, log_of, listed}
use Rattle.repl_peer.proofs.session.sessions.Sessions.shared_with.Given as goal

abbrev pub invariant-loop-left : goal.invariant-loop-left
invariant-loop-left l =
    let log = log_of (sessions_of l.self-inside.entries.entries) l.rep in
    record {
      so_far : common l.source log ≡ common l.source (drop (length (listed l.self-inside.by_rep l.rep) - l.left) log);
      within : l.left ≤ length (listed l.self-inside.by_rep l.rep);
    }

abbrev pub decreases-loop-left : goal.decreases-loop-left
decreases-loop-left g = g.left
