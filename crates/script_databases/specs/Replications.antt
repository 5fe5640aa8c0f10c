-- Defines what replications between two databases of a script guarantee, as specified in docs/PROFILE.md, "Command
-- lines".
use Rattle.std.specs.Prelude.{◌≡◌, ◌⊎◌, ℕ, Bool, false, nat_eq, List, Option, Some, Result, Ok, Err, IfOk, IfErr, OnOk, ◌≤◌}
use Rattle.std.specs.List.{starts_with}
use Rattle.std.specs.Option.{option_map_or}
use Rattle.doc_json.specs.Document.{Document}
use Rattle.doc_json.specs.Chosen.{Choice}
use Rattle.repl_pool.specs.Early.{early_answer}
use Rattle.repl_pool.specs.Runs.{Runs, RunsOn}
use Rattle.pool_workers.specs.declared.fault.PoolFault.{PoolFault}
use Rattle.pool_workers.specs.declared.fault.PoolFault.TheVariants as faults
use Rattle.pool_workers.specs.declared.gate.Place.{Place}
use Rattle.repl_peer.specs.peer.Backups.{BackupValue}
use Rattle.repl_peer.specs.peer.Later.{IsLaterPeer}
use Rattle.repl_peer.specs.peer.Peer.{PeerValue}
use Rattle.repl_target.specs.Audit.{CoversFeed}
use Rattle.repl_target.specs.replication.Replication.{IsReported, Replicates}
use Rattle.repl_target.specs.replication.Expected.{IsExpected}
use Rattle.repl_target.specs.ties.Ties.{IsTiedPair, IsTiedWith, KeepsOthersTied}
use Rattle.repl_peer.specs.declared.fault.Report.{Report}
use Rattle.repl_peer.specs.declared.fault.TargetFault.{TargetFault}
use Rattle.repl_target.specs.declared.replication.Plan.{Plan}
use Rattle.script_databases.specs.Databases.{State, peer_at, with_peer}
use Rattle.script_databases.specs.declared.watched.Watched.{Watched}

-- Whether the id of document d begins with the denied prefix, so that a target refuses d.
abbrev pub deny_refuses : Option (List ℕ) → Document → Bool
deny_refuses deny d = option_map_or (λ prefix. starts_with nat_eq d.id prefix) deny false

-- The state that results if peer s is stored under the source's name and peer t under the target's name.
abbrev pub with_both : State → List ℕ → List ℕ → PeerValue → PeerValue → State
with_both old source target s t = with_peer (with_peer old source s) target t

-- ---- by one thread

-- What a replication by one thread guarantees, as specified in docs/PROFILE.md, "Replication by one thread" and "Tied
-- peers".
--
-- At the source, a replication by one thread changes only the source's logs. At the target, the state after the
-- replication is later than the state before (`IsLaterPeer`). For every selection and all backups of the source,
-- consistent peers stay consistent, even if a replication between them fails. If a replication succeeded, its report
-- describes the session that the replication began at the target. If a replication between consistent peers succeeded,
-- the target covers the source's selected feed. If a replication between consistent peers failed, `IsExpected` lists
-- the error.
pub record KeepsTied (s t : PeerValue) (plan : Plan) (result : Result Report TargetFault) (s' t' : PeerValue) : Type 0
  where
    pub log : s' ≡ record s { outgoing = s'.outgoing }
    pub later : IsLaterPeer t t'
    pub tied : (chosen : Choice) (backups : List BackupValue) → IsTiedWith backups s t chosen
        → IsTiedWith backups s' t' chosen
    pub others : KeepsOthersTied s t s' t'
    pub well : IfOk result (λ report. IsReported s t t' plan report)
    pub whole : OnOk result (IsTiedPair s t plan.chosen → CoversFeed s t' plan.chosen s.db.update_seq)
    pub expected : IfErr result (λ why. IsTiedPair s t plan.chosen → IsExpected s t plan why)

-- The results that a replication by one thread may have, including errors, and the script's state after the
-- replication. If source and target are the same database, every plan is rejected.
abbrev pub ReplicatesAlone : State → List ℕ → List ℕ → PeerValue → PeerValue → Plan → Result Report TargetFault → State
    → Type 0
ReplicatesAlone old source target s t plan result new =
    (s' : PeerValue) × (t' : PeerValue) × Replicates (deny_refuses old.program.deny) s t plan result s' t'
    × KeepsTied s t plan result s' t' × (new ≡ with_both old source target s' t')

-- ---- by the pool

-- Whether the gate may stop a worker at the stage `place`. The gate is a callback that workers call at each stage. In a
-- script, the gate never stops a worker.
abbrev pub Nowhere : Place → Type 0
Nowhere place = ⊥

-- The results that a replication with a pool of threads may have, including errors, and the script's state after the
-- replication.
abbrev pub ReplicatesByPool : State → List ℕ → List ℕ → PeerValue → PeerValue → Plan → Result Report PoolFault → State
    → Type 0
ReplicatesByPool old source target s t plan result new =
    (s' : PeerValue) × (t' : PeerValue) × (fetched : List ℕ)
    × Runs deny_refuses Nowhere plan (old.program.deny, s) (old.program.deny, t) (old.program.deny, s')
    (old.program.deny, t') fetched result
    × (new ≡ with_both old source target s' t')

-- ---- with a progress board

-- The result of a replication with a pool of threads and a progress board, but without the board's counts.
abbrev pub unwatched : Result Watched PoolFault → Result Report PoolFault
unwatched (Ok watched) = Ok watched.report
unwatched (Err why) = Err why

-- The results that a replication with a pool of threads and a progress board may have, and the script's state after the
-- replication. If a replication with a progress board succeeds, it returns a count of settled documents that is at most
-- its count of read documents. If the plan is valid but the board could not be allocated, the result is `Memory`, and
-- the script's state is unchanged.
abbrev pub ReplicatesWatched : State → List ℕ → List ℕ → PeerValue → PeerValue → Plan → Result Watched PoolFault
    → State → Type 0
ReplicatesWatched old source target s t plan result new =
    (early_answer s t plan ≡ Ok tt) × (result ≡ Err faults.Memory) × (new ≡ old)
    ⊎ IfOk result (λ w. w.settled ≤ w.read) × (s' : PeerValue) × (t' : PeerValue) × (fetched : List ℕ)
    × RunsOn deny_refuses (Unit {0}) Nowhere plan (old.program.deny, s) (old.program.deny, t) (old.program.deny, s')
    (old.program.deny, t') fetched (unwatched result)
    × (new ≡ with_both old source target s' t')

-- ---- between two named databases

abbrev pub ReplicatesBetween : {R : Type 0} → (State → List ℕ → List ℕ → PeerValue → PeerValue → Plan → R → State → Type 0)
    → State → List ℕ → List ℕ → Plan → R → State → Type 0
ReplicatesBetween way old source target plan result new =
    (s : PeerValue) × (t : PeerValue) × (peer_at old source ≡ Some s) × (peer_at old target ≡ Some t)
    × way old source target s t plan result new
