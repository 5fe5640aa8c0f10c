-- Defines settling for the parts of a peer: a database, one session, and the index of refused revisions.
use Rattle.std.specs.Prelude.{◌≡◌, ℕ, ◌<◌, ◌≤◌, ◌==◌, Bool, true, false, ◌&&◌, ◌||◌, if◌then◌else◌, List, [], ◌∷◌, length, take, drop, slice_get, Some, None, Result, Ok, Err}
use Rattle.std.specs.List.{find}
use Rattle.std.specs.Str.{bytes_eq}
use Rattle.rev_core.specs.Rev.{RevId}
use Rattle.rev_core.specs.Ancestry.{is_among}
use Rattle.rev_tree.specs.Tree.{has}
use Rattle.rev_tree.specs.declared.origin.Origin.{Origin}
use Rattle.doc_json.specs.Document.{Document}
use Rattle.couch_base.specs.Lists.{Among}
use Rattle.couch_base.specs.Database.{Id, DatabaseValue, tree_of}
use Rattle.couch_base.specs.Feed.{RowValue, WindowValue}
use Rattle.couch_base.specs.Messages.{ParcelValue}
use Rattle.range_front.specs.Front.{finished}
use Rattle.repl_peer.specs.peer.Peer.{PeerValue, SessionValue, RefusedValue}
use Rattle.repl_peer.specs.peer.Covered.{in_ledger, first_unknown}
use Rattle.repl_peer.specs.session.LedgerIndex.{is_ledgered}
use Rattle.repl_peer.specs.session.Settling.{Settling, fed, Halts, stops_at, settle_one, leaf_count, asked_count, settle_docs, settled_before, settle_at, window_in, with_done, with_checked, GrownBy}
use Rattle.repl_peer.specs.declared.fault.Cause.{Cause}
use Rattle.repl_peer.specs.declared.fault.Cause.TheVariants as causes
use Rattle.repl_peer.specs.declared.fault.Settled.{Settled}
use Rattle.repl_peer.specs.declared.fault.TargetFault.{TargetFault}
use Rattle.repl_peer.specs.declared.fault.TargetFault.TheVariants as faults
use Rattle.repl_peer.specs.declared.session.ledger_index.LedgerIndex.{LedgerIndex}

-- Whether revision r is in the tree of document `id`, or in the index of refused revisions.
abbrev pub known_of : DatabaseValue → LedgerIndex → Id → RevId → Bool
known_of db index id r = has (tree_of db.docs id) r || is_ledgered index id r

-- The ledger index `new` has exactly the revisions of the index `old`, and the revisions of the documents in the list
-- `ledger`.
abbrev pub IndexesMore : LedgerIndex → List RefusedValue → LedgerIndex → Type 0
IndexesMore old ledger new =
    (id : Id) (r : RevId) → is_ledgered new id r ≡ (is_ledgered old id r || in_ledger ledger id r)

-- The id and the replication of a session stay the same, and the session's ledger only grows. The ledger index gains
-- exactly the revisions that the session's ledger gains.
pub record KeepsIndexed (old : SessionValue) (index : LedgerIndex) (new : SessionValue) (index' : LedgerIndex) : Type 0
  where
    pub id : new.id ≡ old.id
    pub rep : new.rep ≡ old.rep
    pub ledger : (i : Id) (r : RevId) → in_ledger old.ledger i r ≡ true → in_ledger new.ledger i r ≡ true
    pub indexed : (base : LedgerIndex) → IndexesMore base old.ledger index → IndexesMore base new.ledger index'

-- A list of rows has a row of document `id` at index i.
abbrev pub IsRowOf : List RowValue → Id → ℕ → Type 0
IsRowOf rows id i = (row : RowValue) × (slice_get rows i ≡ Some row) × (bytes_eq row.id id ≡ true)

-- The windows of a list are consecutive, and the first begins at `lo`.
abbrev pub Consecutive : ℕ → List WindowValue → Type 0
Consecutive lo [] = Unit {0}
Consecutive lo (w ∷ ws) = (w.lo ≡ lo) × (lo < w.hi) × Consecutive w.hi ws

-- In a list of windows, the first window with the bounds `lo` and `hi` is at index i.
pub record IsWindowAt (ws : List WindowValue) (lo hi i : ℕ) : Type 0 where
  pub window : WindowValue
  pub at : slice_get ws i ≡ Some window
  pub first : find (λ w. (w.lo == lo) && (w.hi == hi)) ws ≡ Some window

-- ---- one document

-- The new ledger index has exactly the revisions of the old ledger index.
abbrev pub IsSameIndex : LedgerIndex → LedgerIndex → Type 0
IsSameIndex old new = (id : Id) (r : RevId) → is_ledgered new id r ≡ is_ledgered old id r

-- The new ledger index has exactly the revisions of the old ledger index and of document d.
abbrev pub IsIndexedWith : Document → LedgerIndex → LedgerIndex → Type 0
IsIndexedWith d old new =
    (id : Id) (r : RevId) → is_ledgered new id r ≡ (is_ledgered old id r || (bytes_eq d.id id && is_among r d.ancestry))

abbrev pub settling_at : DatabaseValue → SessionValue → Settling
settling_at db session = record { db = db; session = session }

-- Settling document d changes the database and the session from `before` to `after`, and does not stop at d. Each
-- revision that document d adds to its tree is stored with the origin o.
pub record Steps (refuses : Document → Bool) (o : Origin) (d : Document) (before after : Settling) : Type 0 where
  pub goes : stops_at refuses before d ≡ false
  pub step : (w : WindowValue) → o ≡ fed w before.session.id d → after ≡ settle_one refuses w before d

-- The cause that settling reports if settling a document failed. The cause is `SeqFull` if the database had no unused
-- sequence for the document, and `Memory` otherwise.
abbrev pub cause_at : Bool → Cause
cause_at full = if full then causes.SeqFull else causes.Memory

-- ---- documents of a parcel

-- The first n documents of a parcel are settled, and the list `others` has the remaining documents.
pub record Reached (refuses : Document → Bool) (w : WindowValue) (before : Settling) (docs : List Document) (n : ℕ)
    (others : List Document) (after : Settling) : Type 0 where
  pub within : n ≤ settled_before refuses w before docs
  pub rest : others ≡ drop n docs
  pub settling : after ≡ settle_docs refuses w before (take n docs)

-- All documents of a parcel are settled.
pub record ReachedAll (refuses : Document → Bool) (w : WindowValue) (before : Settling) (docs : List Document)
    (after : Settling) : Type 0 where
  pub all : settled_before refuses w before docs ≡ length docs
  pub settling : after ≡ settle_docs refuses w before docs

-- The database and the session after marking window w of the session as done.
abbrev pub with_mark : WindowValue → ParcelValue → Settling → Settling
with_mark w parcel z = record z { session = with_done w parcel z.session }

pub record SettlesAndMarks (refuses : Document → Bool) (known : Id → RevId → Bool) (w : WindowValue) (before : Settling)
    (parcel : ParcelValue) (settled : Settled) (after : Settling) : Type 0 where
  pub all : settled_before refuses w before parcel.docs ≡ length parcel.docs
  pub settling : after ≡ with_mark w parcel (settle_docs refuses w before parcel.docs)
  pub covered : first_unknown known w.rows ≡ None
  pub counts : GrownBy (settle_docs refuses w before parcel.docs).session.counts before.session.counts settled

-- Each revision in the ancestries of the documents `docs` is in the tree of the document in the database.
abbrev pub HasDocuments : DatabaseValue → List Document → Type 0
HasDocuments db docs =
    (d : Document) → Among d docs → (r : RevId) → is_among r d.ancestry ≡ true → has (tree_of db.docs d.id) r ≡ true

-- ---- the parcel

-- The result of checking a parcel: the index of the parcel's window, the number of the window's leaves, and the number
-- of requested revisions.
pub record Passes (s : SessionValue) (parcel : ParcelValue) (place leaves asked : ℕ) : Type 0 where
  pub window : WindowValue
  pub at : slice_get s.windows place ≡ Some window
  pub answer : settle_at s parcel (window_in s parcel.asked.lo parcel.asked.hi) ≡ Ok (s, window)
  pub leaf_count : leaves ≡ leaf_count window
  pub asked_count : asked ≡ asked_count parcel.asked

-- The result of an attempt to mark window w as done, and the session t after the attempt. A window is marked as done
-- only if each leaf of the window's rows satisfies the test `known`.
abbrev pub Marks : (Id → RevId → Bool) → WindowValue → SessionValue → ℕ → ℕ → ℕ → Result (Unit {0}) TargetFault
    → SessionValue → Type 0
Marks known w s leaves asked n (Ok done) t =
    (first_unknown known w.rows ≡ None)
    × (t ≡ record s { front = finished s.front w.lo w.hi; counts = with_checked s.counts leaves asked })
Marks known w s leaves asked n (Err (faults.Uncovered seq id rev)) t =
    (first_unknown known w.rows ≡ Some (record { seq = seq; id = id; rev = rev })) × (t ≡ s)
Marks known w s leaves asked n (Err (faults.Stopped m rest causes.Memory)) t = (m ≡ n) × (rest.items ≡ []) × (t ≡ s)
Marks known w s leaves asked n (Err fault) t = ⊥

-- What settling a parcel gives if the parcel's checks have passed: a result, and the state after settling.
abbrev pub PartsSettled : (Document → Bool) → (Id → RevId → Bool) → WindowValue → Settling → ParcelValue
    → Result Settled TargetFault → Settling → Type 0
PartsSettled refuses known w before parcel (Ok settled) after = SettlesAndMarks refuses known w before parcel settled after
PartsSettled refuses known w before parcel (Err (faults.Uncovered seq id rev)) after =
    ReachedAll refuses w before parcel.docs after
    × (first_unknown known w.rows ≡ Some (record { seq = seq; id = id; rev = rev }))
PartsSettled refuses known w before parcel (Err (faults.Stopped n rest cause)) after =
    Reached refuses w before parcel.docs n rest.items after × Halts refuses w before parcel.docs n cause
PartsSettled refuses known w before parcel (Err fault) after = ⊥

-- The result of settling a parcel and the state after settling, given the outcome of the parcel's checks.
abbrev pub PartsSettle : (Document → Bool) → (Id → RevId → Bool) → Settling → ParcelValue
    → Result (SessionValue × WindowValue) TargetFault → Result Settled TargetFault → Settling → Type 0
PartsSettle refuses known before parcel (Ok at) result after =
    PartsSettled refuses known at.1 before parcel result after
PartsSettle refuses known before parcel (Err fault) result after = (result ≡ Err fault) × (after ≡ before)

abbrev pub PartsGive : (Document → Bool) → (Id → RevId → Bool) → Settling → ParcelValue → Result Settled TargetFault
    → Settling → Type 0
PartsGive refuses known before parcel result after =
    PartsSettle refuses known before parcel
    (settle_at before.session parcel (window_in before.session parcel.asked.lo parcel.asked.hi)) result after

-- ---- the table of sessions

-- The state of peer p after replacing its database and its sessions.
abbrev pub with_parts : PeerValue → DatabaseValue → List SessionValue → PeerValue
with_parts p db sessions = record p { db = db; sessions = sessions }
