use Rattle.proof_prelude.proofs.{◌≡◌, ◌-◌, ◌≤◌}
use Rattle.repl_target.specs.{Reads}
use Rattle.repl_target.proofs.replication.read_windows.Given as goal

-- the windows so far are read
abbrev pub invariant-loop-since : goal.invariant-loop-since
invariant-loop-since g l =
    Reads (g.G.WriteFilter.refuses l.initial.target.0) l.source.1.db l.plan l.windows (record { since = l.initial.start; target = l.initial.target.1 }) (record { since = l.since; target = l.target.1 })
    × (l.target.0 ≡ l.initial.target.0) × (l.windows ≤ l.since) × (l.goal ≡ l.source.1.db.update_seq)

abbrev pub decreases-loop-since : goal.decreases-loop-since
decreases-loop-since g l = l.goal - l.since
