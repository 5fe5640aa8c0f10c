-- Defines the origins of a peer's revisions, as specified in docs/PROFILE.md, "Revision trees" and "The peer's law".
use Rattle.std.specs.Prelude.{◌≡◌, ℕ, true, Some, slice_get}
use Rattle.std.specs.FinMap.{get}
use Rattle.rev_core.specs.Rev.{RevId}
use Rattle.rev_core.specs.Ancestry.{is_among}
use Rattle.rev_tree.specs.Tree.{has}
use Rattle.rev_tree.specs.declared.origin.Origin.{Origin}
use Rattle.rev_tree.specs.declared.origin.Origin.TheVariants.{Local, Feed}
use Rattle.rev_tree.specs.declared.origin.SessionId.{SessionId}
use Rattle.couch_base.specs.Lists.{Among}
use Rattle.couch_base.specs.Database.{Id, tree_of}
use Rattle.couch_base.specs.Feed.{RowValue, WindowValue}
use Rattle.repl_peer.specs.peer.Peer.{PeerValue, SessionValue, WrittenValue}

-- Local write number n of peer p wrote document `id` with an ancestry that includes revision r.
pub record IsLocal (p : PeerValue) (id : Id) (r : RevId) (n : ℕ) : Type 0 where
  pub write : WrittenValue
  pub stored : slice_get p.locals n ≡ Some write
  pub of : write.id ≡ id
  pub brings : is_among r write.ancestry ≡ true

-- A stored window of session s has a row of document `id` at sequence `seq`.
pub record IsListed (s : SessionValue) (id : Id) (seq : ℕ) : Type 0 where
  pub window : WindowValue
  pub stored : Among window s.windows
  pub row : RowValue
  pub listed : Among row window.rows
  pub at : row.seq ≡ seq
  pub of : row.id ≡ id

-- Session s has an arrival (a stored document) with the id `id`, and revision r is in the arrival's ancestry.
pub record IsArrival (s : SessionValue) (id : Id) (r : RevId) : Type 0 where
  pub arrival : WrittenValue
  pub stored : Among arrival s.arrivals
  pub of : arrival.id ≡ id
  pub brings : is_among r arrival.ancestry ≡ true

-- Peer p has the given session. The session has a row of document `id` at sequence `seq`, and an arrival of document
-- `id` that has revision r.
pub record IsFed (p : PeerValue) (id : Id) (r : RevId) (session : SessionId) (seq : ℕ) : Type 0 where
  pub by : SessionValue
  pub held : Among by p.sessions
  pub named : by.id ≡ session
  pub listed : IsListed by id seq
  pub arrived : IsArrival by id r

-- Peer p has the origin of revision r of document `id`: the local write, or the session, from which the revision came.
-- An origin is a local write, or a session and a sequence of the session's source. If the origin is a local write, peer
-- p has the write, and the write has revision r (`IsLocal`). If the origin is a session and a sequence, peer p has the
-- session, with a row of the document at this sequence (`IsFed`). If the origin is a session and a sequence, the
-- session also has an arrival (a stored document) with revision r.
abbrev pub ComesFrom : PeerValue → Id → RevId → Origin → Type 0
ComesFrom p id r (Local n) = IsLocal p id r n
ComesFrom p id r (Feed session seq) = IsFed p id r session seq

-- Every revision of every tree of peer p has a stored origin, and this origin is correct (`ComesFrom`).
abbrev pub HasOrigins : PeerValue → Type 0
HasOrigins p =
    (id : Id) (r : RevId) → has (tree_of p.db.docs id) r ≡ true
    → (o : Origin) × (get (tree_of p.db.docs id).origins r ≡ Some o) × ComesFrom p id r o
