-- Defines when one state of a peer is later than another state, with no restore of the peer in between. A revision that
-- the peer covers stays covered.
use Rattle.std.specs.Prelude.{◌≡◌, ℕ, ◌≤◌, Some, slice_get}
use Rattle.couch_base.specs.Lists.{Among}
use Rattle.couch_base.specs.WriteLaws.{IsLater}
use Rattle.couch_base.specs.Feed.{WindowValue}
use Rattle.repl_peer.specs.peer.Peer.{PeerValue, SessionValue, WrittenValue, RefusedValue}

-- Calls of a peer never change a session's id, scope or start. Calls may add windows, arrivals and ledger rows to a
-- session, but never remove any, and never lower the session's recorded sequence.
pub record Keeps (old new : SessionValue) : Type 0 where
  pub id : new.id ≡ old.id
  pub scope : new.scope ≡ old.scope
  pub start : new.front.start ≡ old.front.start
  pub recorded : old.recorded ≤ new.recorded
  pub windows : (w : WindowValue) → Among w old.windows → Among w new.windows
  pub arrivals : (a : WrittenValue) → Among a old.arrivals → Among a new.arrivals
  pub ledger : (x : RefusedValue) → Among x old.ledger → Among x new.ledger

-- Peer `new` is a later state of peer `old`, without a restore in between. The database of `new` is a later state of the
-- database of `old`. Peer `new` still has each session of `old`, and each local write of `old` under the same number.
pub record IsLaterPeer (old new : PeerValue) : Type 0 where
  pub db : IsLater old.db new.db
  pub locals : (n : ℕ) (x : WrittenValue) → slice_get old.locals n ≡ Some x → slice_get new.locals n ≡ Some x
  pub sessions : (s : SessionValue) → Among s old.sessions → (t : SessionValue) × Among t new.sessions × Keeps s t
