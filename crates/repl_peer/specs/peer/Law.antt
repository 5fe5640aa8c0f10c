-- Defines the invariant of a peer, as specified in docs/PROFILE.md, "The peer's law".
use Rattle.std.specs.Prelude.{◌≡◌, ◌⊎◌, ℕ, ◌≤◌, Bool, true, List, [], ◌∷◌, map, length, Some, None, nat_eq}
use Rattle.std.specs.List.{IsDistinct, AllByRecursion}
use Rattle.rev_core.specs.Rev.{RevId}
use Rattle.rev_core.specs.Ancestry.{is_among}
use Rattle.rev_tree.specs.Tree.{has}
use Rattle.doc_json.specs.Document.{Document}
use Rattle.couch_base.specs.Lists.{Among}
use Rattle.couch_base.specs.Database.{tree_of}
use Rattle.couch_base.specs.Feed.{WindowValue, IsWindow}
use Rattle.range_front.specs.Front.{FrontValue, IsFront, bounds, end_of, is_done, low_water}
use Rattle.repl_log.specs.Counts.{AddUp}
use Rattle.repl_log.specs.declared.counts.Counts.{Counts}
use Rattle.repl_peer.specs.peer.Peer.{PeerValue, SessionValue, WrittenValue, RefusedValue}
use Rattle.repl_peer.specs.peer.Stands.{StandsIn}
use Rattle.repl_peer.specs.peer.Covered.{rightly_refused, CoversWindow}
use Rattle.repl_peer.specs.peer.Origins.{HasOrigins}

abbrev pub window_bounds : List WindowValue → List (ℕ × ℕ)
window_bounds ws = map (λ w. (w.lo, w.hi)) ws

-- The invariant of a session's stored windows `ws`, front f, recorded sequence n and goal. The front of a session says
-- which windows are done.
pub record LawfulStore (f : FrontValue) (ws : List WindowValue) (n goal : ℕ) : Type 0 where
  -- A session's windows are consecutive from the session's start, end at or below the goal, and have rows with rising
  -- sequences. The front of a session lists the lower and upper bound of each of the session's windows, in the order of
  -- the windows.
  pub front : IsFront f
  pub bounds : window_bounds ws ≡ bounds f
  pub within : end_of f ≤ goal
  pub windows : AllByRecursion IsWindow ws
  -- A session's recorded sequence is at least the session's start, and at most the session's low water (the sequence up
  -- to which all its windows are done).
  pub start : f.start ≤ n
  pub recorded : n ≤ low_water f

-- The counts of a session agree with the session's arrivals and the session's ledger.
pub record LawfulCounts (arrivals : List WrittenValue) (ledger : List RefusedValue) (counts : Counts) : Type 0 where
  pub written : counts.written ≡ length arrivals
  pub failures : counts.failures ≡ length ledger
  pub read : AddUp counts

pub record LawfulSession (refuses : Document → Bool) (p : PeerValue) (s : SessionValue) : Type 0 where
  pub store : LawfulStore s.front s.windows s.recorded s.goal
  pub open store use *
  -- The peer covers each leaf in the rows of a window that is done.
  pub done : (w : WindowValue) → Among w s.windows → is_done s.front w.lo w.hi ≡ true → CoversWindow p w
  -- Each document in the session's ledger is rightly refused.
  pub ledger : (x : RefusedValue) → Among x s.ledger → rightly_refused refuses p.db x.doc ≡ true
  -- Each revision of an arrival is in the tree of the arrival's document.
  pub arrivals : (a : WrittenValue) → Among a s.arrivals → (r : RevId) → is_among r a.ancestry ≡ true
      → has (tree_of p.db.docs a.id) r ≡ true
  pub stands : (a : WrittenValue) → Among a s.arrivals → StandsIn p.db a
  pub counts : LawfulCounts s.arrivals s.ledger s.counts
  pub open counts use *

-- The base of a session is the earlier session of the same replication that the session continues. A session without a
-- base starts at sequence 0. A session with a base starts at or below the base's recorded sequence.
abbrev pub IsBased : List SessionValue → SessionValue → Type 0
IsBased earlier s =
    (s.base ≡ None) × (s.front.start ≡ 0)
    ⊎ (b : SessionValue) × Among b earlier × (s.base ≡ Some b.id) × (s.rep ≡ b.rep) × (s.front.start ≤ b.recorded)

abbrev pub AllBased : List SessionValue → Type 0
AllBased [] = Unit {0}
AllBased (s ∷ earlier) = IsBased earlier s × AllBased earlier

abbrev pub session_numbers : List SessionValue → List ℕ
session_numbers sessions = map (λ s. s.id.0) sessions

-- The invariant of all sessions of peer p.
pub record LawfulSessions (refuses : Document → Bool) (p : PeerValue) : Type 0 where
  pub sessions : (s : SessionValue) → Among s p.sessions → LawfulSession refuses p s
  pub based : AllBased p.sessions
  pub distinct : IsDistinct nat_eq (session_numbers p.sessions)

-- The invariant of peer p. The sessions of peer p satisfy the invariant of sessions. For each revision, peer p has the
-- local write or the session's row from which the revision came (its origin). If the generations of a local write
-- fall by one per revision, consecutive revisions are child and parent in the document's tree (`StandsIn`).
pub record Lawful (refuses : Document → Bool) (p : PeerValue) : Type 0 where
  pub sessions : LawfulSessions refuses p
  pub origins : HasOrigins p
  pub locals : (a : WrittenValue) → Among a p.locals → StandsIn p.db a
