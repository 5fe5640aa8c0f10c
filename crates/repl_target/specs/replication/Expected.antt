-- Defines the errors of a replication by one thread between consistent peers, as specified in docs/PROFILE.md,
-- "Replication by one thread".
use Rattle.std.specs.Prelude.{◌≡◌, ℕ, ◌<◌, true, false, Some}
use Rattle.repl_peer.specs.peer.Peer.{PeerValue, holds}
use Rattle.repl_peer.specs.declared.fault.TargetFault.{TargetFault}
use Rattle.repl_peer.specs.declared.fault.TargetFault.TheVariants as faults
use Rattle.repl_target.specs.replication.Replication.{is_batch}
use Rattle.repl_target.specs.declared.replication.Plan.{Plan}

-- The plan has a maximum number of windows (`stop_after`), and the low water is below the source's update sequence.
abbrev pub StopsShort : PeerValue → Plan → ℕ → Type 0
StopsShort source plan low_water =
    (stop_after : ℕ) × (plan.stop_after ≡ Some stop_after) × (low_water < source.db.update_seq)

-- The errors that a replication by one thread between consistent peers may return, each with its condition. Other
-- errors are impossible.
abbrev pub IsExpected : PeerValue → PeerValue → Plan → TargetFault → Type 0
IsExpected source target plan faults.BadBatch = is_batch plan.batch ≡ false
IsExpected source target plan faults.SamePeer = source.db.uuid ≡ target.db.uuid
IsExpected source target plan faults.SessionExists = holds target.sessions plan.session ≡ true
IsExpected source target plan faults.CountFull = Unit {0}
IsExpected source target plan (faults.Stopped settled rest cause) = Unit {0}
IsExpected source target plan (faults.Unfinished low_water) = StopsShort source plan low_water
IsExpected source target plan faults.Memory = Unit {0}
IsExpected source target plan fault = ⊥
