-- Defines replication in both directions by the pool, as specified in docs/PROFILE.md, "Both ways", and in PouchDB,
-- `sync`.
use Rattle.std.specs.Prelude.{ℕ, Bool, List, Result, Ok, Err}
use Rattle.doc_json.specs.Document.{Document}
use Rattle.repl_peer.specs.peer.Peer.{PeerValue}
use Rattle.repl_peer.specs.declared.fault.Report.{Report}
use Rattle.repl_target.specs.declared.replication.Plan.{Plan}
use Rattle.repl_target.specs.declared.replication.sync.Synced.{Synced}
use Rattle.repl_pool.specs.Runs.{Runs}
use Rattle.pool_workers.specs.declared.gate.Place.{Place}
use Rattle.pool_workers.specs.declared.fault.PoolFault.{PoolFault}
use Rattle.repl_pool.specs.declared.both_ways.SyncFault.{SyncFault}
use Rattle.repl_pool.specs.declared.both_ways.SyncFault.TheVariants as faults

-- The result of a run from a to b and a second run from b to a. The pool starts the second run only if the first run
-- succeeded.
pub data SyncRuns {F : Type 0} (refuses : F → Document → Bool) (may_stop : Place → Type 0) (there back : Plan)
    (a b : F × PeerValue) : F × PeerValue → F × PeerValue → Result Synced SyncFault → Type 0 where
  refused_there : {why : PoolFault} {a' b' : F × PeerValue} {fetched : List ℕ}
      → Runs refuses may_stop there a b a' b' fetched (Err why)
      → SyncRuns refuses may_stop there back a b a' b' (Err (faults.There why))
  refused_back : {report : Report} {why : PoolFault} {a' b' a'' b'' : F × PeerValue} {fetched fetched' : List ℕ}
      → Runs refuses may_stop there a b a' b' fetched (Ok report)
      → Runs refuses may_stop back b' a' b'' a'' fetched' (Err why)
      → SyncRuns refuses may_stop there back a b a'' b'' (Err (faults.Back why))
  both : {reports : Synced} {a' b' a'' b'' : F × PeerValue} {fetched fetched' : List ℕ}
      → Runs refuses may_stop there a b a' b' fetched (Ok reports.there)
      → Runs refuses may_stop back b' a' b'' a'' fetched' (Ok reports.back)
      → SyncRuns refuses may_stop there back a b a'' b'' (Ok reports)
