-- Defines the results of calls on a network, and how the calls change the peers, as specified in docs/PROFILE.md,
-- "Nets".
use Rattle.std.specs.Prelude.{◌≡◌, ◌≢◌, ◌⊎◌, ℕ, ◌+◌, ◌<◌, ◌≤◌, Bool, List, [], ◌∷◌, ◌++◌, length, Some, Result, Ok, Err, MatchResult, slice_get}
use Rattle.doc_json.specs.Document.{Document}
use Rattle.doc_json.specs.Chosen.{Choice}
use Rattle.couch_base.specs.declared.fault.BaseFault.{BaseFault}
use Rattle.repl_peer.specs.declared.fault.Report.{Report}
use Rattle.repl_peer.specs.declared.fault.TargetFault.{TargetFault}
use Rattle.repl_peer.specs.declared.fault.TargetFault.TheVariants as refusals
use Rattle.repl_peer.specs.peer.Peer.{PeerValue}
use Rattle.repl_target.specs.Audit.{audit_answer, hole_of}
use Rattle.repl_target.specs.declared.auditing.found.Audit.{Audit}
use Rattle.repl_target.specs.declared.replication.Plan.{Plan}
use Rattle.repl_target.specs.replication.Replication.{Replicates}
use Rattle.repl_network.specs.declared.fault.NetFault.{NetFault}
use Rattle.repl_network.specs.declared.fault.NetFault.TheVariants as faults
use Rattle.repl_network.specs.declared.hop.Hop.{Hop}
use Rattle.repl_network.specs.Network.{AreChanged}
use Rattle.repl_network.specs.Nets.{IsAt, IsHeldAt, IsHeld}
use Rattle.repl_network.specs.Hubs.{gathers, spreads}

-- ---- replications

-- How a hop between two different peers of the network changes the network. A hop is a replication on one thread, by
-- the hop's plan. A hop changes only its source peer and its target peer.
pub record IsHop {F : Type 0} (refuses : F → Document → Bool) (peers : List (F × PeerValue)) (hop : Hop)
    (result : Result Report TargetFault) (peers' : List (F × PeerValue)) : Type 0 where
  pub source : F × PeerValue
  pub target : F × PeerValue
  pub source_then : PeerValue
  pub target_then : PeerValue
  pub two : hop.from ≢ hop.to
  pub changed : AreChanged (slice_get peers) hop.from hop.to source target (source.0, source_then) (target.0, target_then)
      (slice_get peers')
  pub open changed use *
  pub replicates : Replicates (refuses target.0) source.1 target.1 hop.plan result source_then target_then

-- The result of a hop (a replication between two peers), and the network after the hop. The hop is at index `at` in a
-- list of hops. A hop first checks that its source and its target exist and are different peers, and then replicates.
pub data TakesHop {F : Type 0} (refuses : F → Document → Bool) (at : ℕ) (peers : List (F × PeerValue)) (hop : Hop)
    : Result Report NetFault → List (F × PeerValue) → Type 0 where
  no_source : length peers ≤ hop.from → TakesHop refuses at peers hop (Err (faults.NoPeer hop.from)) peers
  no_target : hop.from < length peers → length peers ≤ hop.to
      → TakesHop refuses at peers hop (Err (faults.NoPeer hop.to)) peers
  one_place : hop.from < length peers → hop.from ≡ hop.to
      → TakesHop refuses at peers hop (Err (faults.Hop at refusals.SamePeer)) peers
  refused : {why : TargetFault} {peers' : List (F × PeerValue)} → IsHop refuses peers hop (Err why) peers'
      → TakesHop refuses at peers hop (Err (faults.Hop at why)) peers'
  taken : {report : Report} {peers' : List (F × PeerValue)} → IsHop refuses peers hop (Ok report) peers'
      → TakesHop refuses at peers hop (Ok report) peers'

-- How the hops of a list change the network. The hops are made in order until a hop fails.
abbrev pub TakesHops : {F : Type 0} → (F → Document → Bool) → ℕ → List (F × PeerValue) → List Hop
    → Result (Unit {0}) NetFault → List (F × PeerValue) → Type 0
TakesHops refuses at peers [] result peers' = (result ≡ Ok tt) × (peers' ≡ peers)
TakesHops {F = F} refuses at peers (hop ∷ hops) result peers' =
    ((report : Report) × (mid : List (F × PeerValue)) × TakesHop refuses at peers hop (Ok report) mid
    × TakesHops refuses (at + 1) mid hops result peers')
    ⊎ ((why : NetFault) × TakesHop refuses at peers hop (Err why) peers' × (result ≡ Err why))

-- For each peer other than the hub, there is exactly one plan in each direction.
abbrev pub ArePlanned : ℕ → List Plan → List Plan → Type 0
ArePlanned count there back = (count ≡ length there + 1) × (count ≡ length back + 1)

-- How a synchronization by the hub changes the network. If the number of plans for a hub is wrong, or the allocation
-- for the hops fails, all peers are unchanged.
abbrev pub TakesHub : {F : Type 0} → (F → Document → Bool) → List (F × PeerValue) → List Plan → List Plan
    → Result (Unit {0}) NetFault → List (F × PeerValue) → Type 0
TakesHub refuses peers there back result peers' =
    (¬ ArePlanned (length peers) there back) × (result ≡ Err faults.Plans) × (peers' ≡ peers)
    ⊎ ArePlanned (length peers) there back × (result ≡ Err faults.Memory) × (peers' ≡ peers)
    ⊎ ArePlanned (length peers) there back × TakesHops refuses 0 peers (gathers 0 there ++ spreads 0 back) result peers'

-- ---- writes

-- The result of a peer's call, with the peer's error converted to an error of the network.
abbrev pub told : {T : Type 0} → Result T BaseFault → Result T NetFault
told (Ok done) = Ok done
told (Err why) = Err (faults.Write why)

-- The result of a call on the peer with index `place`: the result of the peer's call, or `NoPeer` if no peer has this
-- index.
abbrev pub AnswersAt : {T : Type 0} → List PeerValue → ℕ → (PeerValue → Result T BaseFault → Type 0) → Result T NetFault
    → Type 0
AnswersAt {T = T} peers place gives result =
    (length peers ≤ place) × (result ≡ Err (faults.NoPeer place))
    ⊎ (p : PeerValue) × IsAt peers place p × (r : Result T BaseFault) × gives p r × (result ≡ told r)

-- ---- peers

-- The reason why a peer is not added to the network: another peer has the new peer's UUID, or an allocation fails.
abbrev pub IsNotAdded : List PeerValue → ℕ → NetFault → Type 0
IsNotAdded peers uuid why =
    ((place : ℕ) × IsHeldAt peers uuid place × (why ≡ faults.SameUuid place))
    ⊎ (¬ IsHeld peers uuid) × (why ≡ faults.Memory)

-- The result of an audit between two peers of the network, given by the indices `source` and `target`. The audit first
-- checks that the source peer exists, then that the target peer exists, and then audits the two peers.
abbrev pub Audits : List PeerValue → ℕ → ℕ → Choice → Result Audit NetFault → Type 0
Audits peers source target chosen result =
    (length peers ≤ source) × (result ≡ Err (faults.NoPeer source))
    ⊎ (source < length peers) × (length peers ≤ target) × (result ≡ Err (faults.NoPeer target))
    ⊎ (p : PeerValue) × (q : PeerValue) × IsAt peers source p × IsAt peers target q
    × MatchResult result (λ found. hole_of found ≡ audit_answer p q chosen) (λ why. why ≡ faults.Memory)
