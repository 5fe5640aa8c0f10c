-- Defines when two peers, the backups, and the messages in transit between the peers are consistent, as specified in
-- docs/PROFILE.md, "Worlds" and "Tied windows and messages". In a consistent world, each window in transit that has the
-- source's current life is consistent with the source's database.
use Rattle.std.specs.Prelude.{◌≡◌, ℕ, ◌≤◌, List, [], Bool, false, Some, None, Result, slice_get}
use Rattle.doc_json.specs.Document.{Document}
use Rattle.doc_json.specs.Chosen.{Choice}
use Rattle.couch_base.specs.Lists.{Among}
use Rattle.couch_base.specs.Database.{LawfulDatabase}
use Rattle.couch_base.specs.Feed.{WindowValue}
use Rattle.couch_base.specs.Messages.{AskedValue, ParcelValue}
use Rattle.repl_log.specs.Entry.{EntryValue}
use Rattle.repl_peer.specs.peer.Peer.{PeerValue, SessionValue}
use Rattle.repl_peer.specs.session.Settling.{SettleGives, is_uncovered}
use Rattle.repl_peer.specs.peer.Law.{Lawful}
use Rattle.repl_peer.specs.logs.Checkpoint.{rep_between}
use Rattle.repl_target.specs.Audit.{audit_answer, IsAudited}
use Rattle.repl_target.specs.ties.Ties.{IsTiedWindow, IsTiedAsked, IsTiedParcel, AreTiedEntries, IsTiedWith, IsSentEntry, LogsAreHonest}
use Rattle.repl_peer.specs.logs.Logs.{source_log}
use Rattle.repl_peer.specs.declared.fault.Settled.{Settled}
use Rattle.repl_peer.specs.declared.fault.TargetFault.{TargetFault}
use Rattle.repl_world.specs.Bags.{IsBag}
use Rattle.repl_world.specs.Worlds.{WorldValue, rep_of}

-- The source's database, the target and the messages in transit have the invariants that their Rust types guarantee.
pub record IsWorld (refuses : Document → Bool) (w : WorldValue) : Type 0 where
  pub source : LawfulDatabase w.source.db
  pub target : Lawful refuses w.target
  pub bag : IsBag w.bag

-- ---- tied worlds

-- The messages in transit include a window at index `place`. The source's database has a life, a number that each
-- restore raises. A window records the life of the source's database. If the window at index `place` has the current
-- life of the source's database, `OwnAsked` states that the request `a` is consistent with the window. If the window at
-- index `place` has the current life of the source's database, `OwnParcel` states that the parcel `p` is consistent
-- with the window.
pub record OwnAsked (w : WorldValue) (place : ℕ) (a : AskedValue) : Type 0 where
  pub window : WindowValue
  pub own : slice_get w.bag.windows place ≡ Some window
  pub tied : window.life ≡ w.source.db.life → IsTiedAsked w.target.db window a

pub record OwnParcel (w : WorldValue) (place : ℕ) (p : ParcelValue) : Type 0 where
  pub window : WindowValue
  pub own : slice_get w.bag.windows place ≡ Some window
  pub tied : window.life ≡ w.source.db.life → IsTiedParcel w.target.db window p

pub record Tied (w : WorldValue) : Type 0 where
  -- The target is consistent with the source and with each backup of the source.
  pub peers : IsTiedWith w.backups w.source w.target w.chosen
  -- Each restore of a database raises the database's life. The life of each window in transit, and of each log in
  -- transit, is at most the life of the source's database.
  pub window_lives : (x : WindowValue) → Among x w.bag.windows → x.life ≤ w.source.db.life
  pub log_lives : (g : ℕ × List EntryValue) → Among g w.bag.logs → g.0 ≤ w.source.db.life
  -- If a window in transit has the same life as the source's database, the window is consistent with this database. If
  -- a window in transit has the same life as the source's database, each request and parcel of the window is consistent
  -- with the window.
  pub windows : (x : WindowValue) → Among x w.bag.windows → x.life ≡ w.source.db.life
      → IsTiedWindow w.source.db w.chosen x
  pub asked : (a : ℕ × AskedValue) → Among a w.bag.asked → OwnAsked w a.0 a.1
  pub parcels : (p : ℕ × ParcelValue) → Among p w.bag.parcels → OwnParcel w p.0 p.1
  pub logs : (g : ℕ × List EntryValue) → Among g w.bag.logs → g.0 ≡ w.source.db.life
      → AreTiedEntries w.source.db w.target (rep_of w) g.1
  -- Each log entry in transit comes from a session of the target.
  pub entries : (e : EntryValue) → Among e w.bag.entries → IsSentEntry w.target e

-- The target has no session of the replication from the source for the selection `chosen`, and the source has no log
-- entry of this replication. The source and the target may have sessions and log entries of replications with other
-- selections.
pub record HoldNone (source target : PeerValue) (chosen : Choice) : Type 0 where
  pub sessions : (s : SessionValue) → Among s target.sessions → s.rep ≡ rep_between source target chosen → ⊥
  pub log : source_log source (rep_between source target chosen) ≡ []

-- ---- guarantees of tied worlds

-- Settling a parcel in transit never returns `Uncovered` if the session has the parcel's window, and this window has
-- the source's current life. Each restore raises the life of the source's database. A window has the source's current
-- life if the source's database has not been restored since it produced the window.
abbrev pub NeverUncovered : (Document → Bool) → WorldValue → Type 0
NeverUncovered refuses w =
    (p : ℕ × ParcelValue) → Among p w.bag.parcels
    → (s : SessionValue) → Among s w.target.sessions
    → (x : WindowValue) → Among x s.windows → slice_get w.bag.windows p.0 ≡ Some x → x.life ≡ w.source.db.life
    → (result : Result Settled TargetFault) (now : PeerValue) → SettleGives refuses w.target s.id p.1 result now
    → is_uncovered result ≡ false

-- What is guaranteed if the peers, the messages between them and the source's backups are consistent (`Tied`). If the
-- peers are consistent, the target covers the source's feed up to the common checkpoint. If the peers are consistent,
-- the target also covers the source's feed up to each sequence that the logs of both peers claim. An audit of
-- consistent peers finds no uncovered leaf. The clause `covered` says when settling a parcel never returns `Uncovered`.
pub record IsTrustworthy (refuses : Document → Bool) (w : WorldValue) : Type 0 where
  pub tied : Tied w
  pub honest : LogsAreHonest w.source w.target w.chosen
  pub common : IsAudited w.source w.target w.chosen
  pub clean : audit_answer w.source w.target w.chosen ≡ None
  pub covered : NeverUncovered refuses w
