-- Defines networks, in which each peer has a key, and the steps of a network, as specified in docs/PROFILE.md, "Nets"
-- and "Tied databases". A peer's key is the index of the peer in a list, or the name of the peer's database.
use Rattle.std.specs.Prelude.{◌≡◌, ◌≢◌, ◌⊎◌, ℕ, Bool, List, [], Option, Some, None, Ok}
use Rattle.doc_json.specs.Document.{Document}
use Rattle.doc_json.specs.Chosen.{Choice}
use Rattle.couch_base.specs.Lists.{Among}
use Rattle.repl_log.specs.declared.replication.RepId.{RepId}
use Rattle.repl_log.specs.Entry.{EntryValue}
use Rattle.repl_peer.specs.peer.Peer.{PeerValue, SessionValue}
use Rattle.repl_peer.specs.peer.Backups.{BackupValue, copy_of, restore_answer, restored}
use Rattle.repl_peer.specs.peer.Later.{IsLaterPeer}
use Rattle.repl_target.specs.declared.replication.Plan.{Plan}
use Rattle.repl_target.specs.ties.Ties.{IsTiedWith}
use Rattle.repl_target.specs.replication.Leaves.{Leaves}

-- ---- the invariant

-- One of the peers has the UUID `uuid`.
abbrev pub IsHeldBy : {K : Type 0} → (K → Option PeerValue) → ℕ → Type 0
IsHeldBy {K = K} peers uuid = (n : K) × (p : PeerValue) × (peers n ≡ Some p) × (p.db.uuid ≡ uuid)

-- One of the peers has the UUID `uuid`, which is not `own`.
abbrev pub IsOther : {K : Type 0} → (K → Option PeerValue) → ℕ → ℕ → Type 0
IsOther peers own uuid = IsHeldBy peers uuid × (uuid ≡ own → ⊥)

-- The peer with UUID `own` has the given logs. Each of the given logs belongs to a replication into another peer of the
-- network.
abbrev pub LeadToOthers : {K : Type 0} → (K → Option PeerValue) → ℕ → List (RepId × List EntryValue) → Type 0
LeadToOthers peers own logs = (l : RepId × List EntryValue) → Among l logs → IsOther peers own l.0.target

-- Each of the given sessions at the peer with UUID `own` belongs to a replication from another peer.
abbrev pub ComeFromOthers : {K : Type 0} → (K → Option PeerValue) → ℕ → List SessionValue → Type 0
ComeFromOthers peers own sessions = (s : SessionValue) → Among s sessions → IsOther peers own s.rep.source

-- The backup b has the same UUID as the peer whose key in the network is n. Each log in the backup b belongs to a
-- replication into another peer of the network.
pub record IsCopyAt {K : Type 0} (peers : K → Option PeerValue) (n : K) (b : BackupValue) : Type 0 where
  pub peer : PeerValue
  pub there : peers n ≡ Some peer
  pub uuid : b.db.uuid ≡ peer.db.uuid
  pub logs : LeadToOthers peers peer.db.uuid b.outgoing

-- Each element of the list `backups` is a backup of the peer with key n, according to the relation `copy`.
abbrev pub AreCopiesAt : {K : Type 0} → (K → BackupValue → Type 0) → K → List BackupValue → Type 0
AreCopiesAt copy n backups = (b : BackupValue) → Among b backups → copy n b

-- The source p, with each of its backups, is consistent with the target q for the selection `chosen`. The key of the
-- source p in the network is n.
abbrev pub AreTiedAt : {K : Type 0} → (K → BackupValue → Type 0) → K → PeerValue → PeerValue → Choice → Type 0
AreTiedAt copy n p q chosen = (backups : List BackupValue) → AreCopiesAt copy n backups → IsTiedWith backups p q chosen

-- For every selection of documents, each peer as a source, with its backups, is consistent with each other peer as a
-- target. No two peers of the network have the same UUID.
pub record AreConsistent {K : Type 0} (peers : K → Option PeerValue) (copy : K → BackupValue → Type 0) : Type 0 where
  pub apart : (m n : K) (p q : PeerValue) → peers m ≡ Some p → peers n ≡ Some q → p.db.uuid ≡ q.db.uuid → m ≡ n
  pub tied : (m n : K) (p q : PeerValue) → peers m ≡ Some p → peers n ≡ Some q → m ≢ n → (chosen : Choice)
      → AreTiedAt copy m p q chosen

-- The invariant of a network. The peers are consistent. Each backup is a backup of the peer with the backup's key. All
-- sessions and logs belong to replications between two different peers of the network.
pub record IsNetwork {K : Type 0} (peers : K → Option PeerValue) (copy : K → BackupValue → Type 0) : Type 0 where
  pub consistent : AreConsistent peers copy
  pub copies : (n : K) (b : BackupValue) → copy n b → IsCopyAt peers n b
  pub logs : (n : K) (p : PeerValue) → peers n ≡ Some p → LeadToOthers peers p.db.uuid p.outgoing
  pub sessions : (n : K) (p : PeerValue) → peers n ≡ Some p → ComeFromOthers peers p.db.uuid p.sessions

-- ---- steps

-- The value with key m was s and is now s'. The value with key n was t and is now t'. No other value has changed.
pub record AreChanged {K X : Type 0} (old : K → Option X) (m n : K) (s t s' t' : X) (new : K → Option X) : Type 0 where
  pub from : old m ≡ Some s
  pub to : old n ≡ Some t
  pub from_then : new m ≡ Some s'
  pub to_then : new n ≡ Some t'
  pub others : (k : K) → k ≢ m → k ≢ n → new k ≡ old k

-- In a network, only the peer with the key n has changed, from p to p'.
abbrev pub Becomes : {K : Type 0} → (K → Option PeerValue) → K → PeerValue → PeerValue → (K → Option PeerValue) → Type 0
Becomes peers n p p' peers' = AreChanged peers n n p p p' p' peers'

-- Local writes have changed peer p to peer p'. The logs and the sessions of the peer are unchanged.
pub record Writes (p p' : PeerValue) : Type 0 where
  pub later : IsLaterPeer p p'
  pub logs : p'.outgoing ≡ p.outgoing
  pub sessions : p'.sessions ≡ p.sessions

-- A replication by a plan has changed two peers of a network: the source with key m, and the target with key n. The
-- replication had one or several threads. No peer except the source and the target has changed.
pub record IsReplicated {K : Type 0} (peers : K → Option PeerValue) (m n : K) (plan : Plan)
    (peers' : K → Option PeerValue) : Type 0 where
  pub refuses : Document → Bool
  pub source : PeerValue
  pub target : PeerValue
  pub source_then : PeerValue
  pub target_then : PeerValue
  pub two : m ≢ n
  pub changed : AreChanged peers m n source target source_then target_then peers'
  pub open changed use *
  pub leaves : Leaves refuses source target plan source_then target_then
  pub later : IsLaterPeer target target_then

-- The peer x was added under the key n. The added peer has neither sessions nor logs, and no other peer has the UUID of
-- the added peer.
pub record IsAdded {K : Type 0} (peers : K → Option PeerValue) (n : K) (x : PeerValue) (peers' : K → Option PeerValue)
    : Type 0 where
  pub free : peers n ≡ None
  pub now : peers' n ≡ Some x
  pub others : (k : K) → k ≢ n → peers' k ≡ peers k
  pub fresh : IsHeldBy peers x.db.uuid → ⊥
  pub sessions : x.sessions ≡ []
  pub logs : x.outgoing ≡ []

-- A step of a network: a local write, a replication, a backup, a restore, or a new peer. The relations `copy` and
-- `copy'` say which backups the network has before and after the step.
pub data Step {K : Type 0} (peers : K → Option PeerValue) (copy : K → BackupValue → Type 0)
    (peers' : K → Option PeerValue) (copy' : K → BackupValue → Type 0) : Type 0 where
  Written : (n : K) (p p' : PeerValue) → Becomes peers n p p' peers' → Writes p p'
      → ((k : K) (b : BackupValue) → copy' k b → copy k b) → Step peers copy peers' copy'
  Replicated : (m n : K) (plan : Plan) → IsReplicated peers m n plan peers' → ((k : K) (b : BackupValue) → copy' k b → copy k b)
      → Step peers copy peers' copy'
  BackedUp : (n : K) (p : PeerValue) → peers n ≡ Some p → peers' ≡ peers
      → ((k : K) (b : BackupValue) → copy' k b → copy k b ⊎ (k ≡ n) × (b ≡ copy_of p)) → Step peers copy peers' copy'
  Restored : (n : K) (p : PeerValue) (b : BackupValue) → copy n b → restore_answer p b ≡ Ok tt
      → Becomes peers n p (restored p b) peers' → ((k : K) (c : BackupValue) → copy' k c → copy k c)
      → Step peers copy peers' copy'
  Added : (n : K) (x : PeerValue) → IsAdded peers n x peers' → ((k : K) (b : BackupValue) → copy' k b → copy k b)
      → Step peers copy peers' copy'
