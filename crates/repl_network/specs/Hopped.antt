-- Defines how a replication changes its two peers, and the network of these peers.
use Rattle.std.specs.Prelude.{◌≡◌, ◌≢◌, ℕ, Bool, List, [], ◌∷◌, slice_get}
use Rattle.doc_json.specs.Document.{Document}
use Rattle.couch_base.specs.Database.{LawfulDatabase}
use Rattle.repl_peer.specs.peer.Peer.{PeerValue}
use Rattle.repl_peer.specs.peer.Later.{IsLaterPeer}
use Rattle.repl_target.specs.Audit.{CoversFeed}
use Rattle.repl_target.specs.ties.Ties.{IsTiedPair}
use Rattle.repl_target.specs.declared.replication.Plan.{Plan}
use Rattle.repl_target.specs.replication.Leaves.{Leaves}
use Rattle.repl_network.specs.declared.hop.Hop.{Hop}
use Rattle.repl_network.specs.Network.{IsReplicated}
use Rattle.repl_network.specs.Nets.{IsAt}

-- How a replication changes its two peers, for every result of the replication, by one thread or by several threads.
pub record Carried (refuses : Document → Bool) (source target : PeerValue) (plan : Plan) (source' target' : PeerValue) : Type 0
  where
    pub source_law : LawfulDatabase source.db
    pub target_law : LawfulDatabase target'.db
    pub later : IsLaterPeer target target'
    pub leaves : Leaves refuses source target plan source' target'

-- How a replication changes the network. The replication changes no peer except its source and its target.
pub record Hopped (peers : List PeerValue) (hop : Hop) (peers' : List PeerValue) : Type 0 where
  pub moved : IsReplicated (slice_get peers) hop.from hop.to hop.plan (slice_get peers')
  pub source_law : LawfulDatabase moved.source.db
  pub target_law : LawfulDatabase moved.target_then.db

-- How a successful replication changes the network. If two peers were consistent before a successful replication, the
-- target covers the source's complete selected feed.
pub record Ended (peers : List PeerValue) (hop : Hop) (peers' : List PeerValue) : Type 0 where
  pub hopped : Hopped peers hop peers'
  pub whole : IsTiedPair hopped.moved.source hopped.moved.target hop.plan.chosen
      → CoversFeed hopped.moved.source hopped.moved.target_then hop.plan.chosen hopped.moved.source.db.update_seq

-- How consecutive successful replications change the network.
abbrev pub AllHopped : List PeerValue → List Hop → List PeerValue → Type 0
AllHopped peers [] peers' = peers' ≡ peers
AllHopped peers (hop ∷ hops) peers' = (mid : List PeerValue) × Ended peers hop mid × AllHopped mid hops peers'

-- The database of each peer of the network satisfies the invariant of databases.
abbrev pub AllLawful : List PeerValue → Type 0
AllLawful peers = (n : ℕ) (p : PeerValue) → IsAt peers n p → LawfulDatabase p.db

-- The function `change` maps the old peer at index `place` to the new peer at this index. The peers at all other
-- indices than `place` are unchanged.
pub record IsChangedAt (place : ℕ) (change : PeerValue → PeerValue) (peers peers' : List PeerValue) : Type 0 where
  pub before : PeerValue
  pub at : IsAt peers place before
  pub at_then : IsAt peers' place (change before)
  pub others : (n : ℕ) → n ≢ place → slice_get peers' n ≡ slice_get peers n
