-- Defines sequences of calls on a target, and how they change the target, as specified in docs/PROFILE.md, "Sessions of
-- a peer" and "Tied windows and messages".
use Rattle.std.specs.Prelude.{◌≡◌, ◌⊎◌, ℕ, ◌<◌, ◌≤◌, min, Bool, List, [], ◌∷◌, Option, Result, Ok, Err}
use Rattle.rev_core.specs.Rev.{RevId}
use Rattle.rev_tree.specs.declared.origin.SessionId.{SessionId}
use Rattle.doc_json.specs.Document.{Document}
use Rattle.doc_json.specs.Chosen.{Choice}
use Rattle.couch_base.specs.Lists.{Among}
use Rattle.couch_base.specs.Database.{Id, DatabaseValue}
use Rattle.couch_base.specs.Feed.{WindowValue, page}
use Rattle.couch_base.specs.Messages.{ParcelValue, open_revs}
use Rattle.repl_log.specs.declared.replication.RepId.{RepId}
use Rattle.repl_peer.specs.peer.Peer.{PeerValue, SessionValue}
use Rattle.repl_peer.specs.peer.Writing.{after_load, after_edit}
use Rattle.repl_peer.specs.session.Sessions.{after_begin, after_append, after_record, after_conclude}
use Rattle.repl_peer.specs.session.Settling.{settle_check, settling_of, settled_before, after_settle, after_stop}
use Rattle.repl_target.specs.replication.Replication.{begins_answer, after_begins}
use Rattle.repl_peer.specs.declared.fault.TargetFault.{TargetFault}
use Rattle.repl_peer.specs.declared.session.beginning.Beginning.{Beginning}
use Rattle.repl_target.specs.declared.replication.Plan.{Plan}

-- The number of documents of a parcel that are settled if no allocation fails, or 0 if a check of the parcel fails.
abbrev pub settled_of : (Document → Bool) → PeerValue → ParcelValue → Result (SessionValue × WindowValue) TargetFault
    → ℕ
settled_of refuses p parcel (Err fault) = 0
settled_of refuses p parcel (Ok at) = settled_before refuses at.1 (settling_of p at.0) parcel.docs

abbrev pub most_settled : (Document → Bool) → PeerValue → SessionId → ParcelValue → ℕ
most_settled refuses p session parcel = settled_of refuses p parcel (settle_check p session parcel)

-- The state of the target p after an allocation fails while `settle` settles a parcel. If no allocation fails, `settle`
-- settles `most_settled` documents. If an allocation fails, `settle` settles n documents, or `most_settled` documents
-- if n is greater.
abbrev pub after_some : (Document → Bool) → PeerValue → SessionId → ParcelValue → ℕ → PeerValue
after_some refuses p session parcel n =
    after_stop refuses p session parcel (min n (most_settled refuses p session parcel))

-- A call that may change a target: a local write, or a step of a replication. The variant `Stop` is a call of `settle`
-- in which an allocation fails. The number `settled` is the maximum number of documents that this call settles before
-- it fails.
pub data Call : Type 0 where
  Load : (doc : Document) → Call
  Edit : (id : Id) (parent : Option RevId) (deleted : Bool) (body : List ℕ) → Call
  Begin : (session : SessionId) (beginning : Beginning) (at : ℕ) → Call
  Append : (session : SessionId) (window : WindowValue) → Call
  Settle : (session : SessionId) (parcel : ParcelValue) → Call
  Stop : (session : SessionId) (parcel : ParcelValue) (settled : ℕ) → Call
  Record : (session : SessionId) (at : ℕ) → Call
  Conclude : (session : SessionId) (at : ℕ) → Call

-- The target after a call, even if the call failed.
abbrev pub after_call : (Document → Bool) → PeerValue → Call → PeerValue
after_call refuses p (Load doc) = after_load p doc
after_call refuses p (Edit id parent deleted body) = after_edit p id parent deleted body
after_call refuses p (Begin session beginning at) = after_begin p session beginning at
after_call refuses p (Append session window) = after_append p session window
after_call refuses p (Settle session parcel) = after_settle refuses p session parcel
after_call refuses p (Stop session parcel settled) = after_some refuses p session parcel settled
after_call refuses p (Record session at) = after_record p session at
after_call refuses p (Conclude session at) = after_conclude p session at

-- The target after a list of calls.
abbrev pub after_calls : (Document → Bool) → PeerValue → List Call → PeerValue
after_calls refuses p [] = p
after_calls refuses p (c ∷ calls) = after_calls refuses (after_call refuses p c) calls

-- Window w is a page of database `db` for a selection.
pub record IsPageOf (db : DatabaseValue) (chosen : Choice) (w : WindowValue) : Type 0 where
  pub since : ℕ
  pub goal : ℕ
  pub limit : ℕ
  pub some : 0 < limit
  pub above : since < goal
  pub within : goal ≤ db.update_seq
  pub is : w ≡ page db since goal limit chosen

-- A call that a replication makes on the target for the session `run`, which has begun. The call begins no session and
-- makes no local write. If the call appends a window, the window is a page of the source's selected feed. If the call
-- settles a parcel, the source has returned this parcel.
abbrev pub IsFrom : DatabaseValue → Choice → SessionId → Call → Type 0
IsFrom source chosen run (Append session window) = (session ≡ run) × IsPageOf source chosen window
IsFrom source chosen run (Settle session parcel) = (session ≡ run) × (parcel ≡ open_revs source parcel.asked)
IsFrom source chosen run (Stop session parcel settled) = (session ≡ run) × (parcel ≡ open_revs source parcel.asked)
IsFrom source chosen run (Record session at) = session ≡ run
IsFrom source chosen run (Conclude session at) = session ≡ run
IsFrom source chosen run call = ⊥

abbrev pub AllFrom : DatabaseValue → Choice → SessionId → List Call → Type 0
AllFrom source chosen run [] = Unit {0}
AllFrom source chosen run (c ∷ calls) = IsFrom source chosen run c × AllFrom source chosen run calls

-- Calls for the session `run` (`IsFrom`) have changed the target from the peer `given` to the peer `now`.
abbrev pub IsGrown : (Document → Bool) → DatabaseValue → Choice → SessionId → PeerValue → PeerValue → Type 0
IsGrown refuses source chosen run given now =
    (calls : List Call) × AllFrom source chosen run calls × (now ≡ after_calls refuses given calls)

-- How a replication changes the target. Either the target is unchanged, or the plan's session has begun at the common
-- checkpoint, and calls for this session have changed the target further.
abbrev pub IsLeft : (Document → Bool) → PeerValue → PeerValue → Plan → PeerValue → Type 0
IsLeft refuses source given plan now =
    (now ≡ given)
    ⊎ (begins_answer source given plan ≡ Ok tt)
    × IsGrown refuses source.db plan.chosen plan.session (after_begins source given plan) now

-- If the id and the replication of a session have the property Q, each window of the session has the property P.
abbrev pub EachStored : (SessionId → RepId → Type 0) → (WindowValue → Type 0) → List SessionValue → Type 0
EachStored Q P sessions =
    (s : SessionValue) → Among s sessions → Q s.id s.rep → (w : WindowValue) → Among w s.windows → P w
