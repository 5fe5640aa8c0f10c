-- Defines the checks that `run` performs before a replication by threads, as specified in docs/PROFILE.md, "The pool".
use Rattle.std.specs.Prelude.{◌==◌, nat_lt, if◌then◌else◌, Result, Ok, Err}
use Rattle.repl_peer.specs.peer.Peer.{PeerValue}
use Rattle.repl_target.specs.replication.Replication.{is_batch}
use Rattle.repl_target.specs.declared.replication.Plan.{Plan}
use Rattle.pool_workers.specs.declared.fault.PoolFault.{PoolFault}
use Rattle.pool_workers.specs.declared.fault.PoolFault.TheVariants as faults

-- The error of the first check that a run's plan fails, or `Ok` if the plan passes all checks.
abbrev pub early_answer : PeerValue → PeerValue → Plan → Result (Unit {0}) PoolFault
early_answer source target plan =
    if plan.workers == 0 then Err faults.NoWorkers
    else (if nat_lt 64 plan.workers then Err faults.TooManyWorkers
    else (if is_batch plan.batch then (if source.db.uuid == target.db.uuid then Err faults.SamePeer else Ok tt)
    else Err faults.BadBatch))
