-- Defines statements about a run's target, as specified in docs/PROFILE.md, "The pool". A lock protects the target
-- during a run.
use Rattle.std.specs.Prelude.{◌≡◌, ℕ, Bool, List, Option, Some}
use Rattle.rev_tree.specs.declared.origin.SessionId.{SessionId}
use Rattle.doc_json.specs.Document.{Document}
use Rattle.doc_json.specs.Chosen.{Choice}
use Rattle.couch_base.specs.Database.{DatabaseValue}
use Rattle.couch_base.specs.Messages.{ParcelValue, open_revs}
use Rattle.repl_peer.specs.peer.Peer.{PeerValue, SessionValue, session_in}
use Rattle.repl_target.specs.replication.Calls.{IsGrown}
use Rattle.repl_target.specs.declared.replication.Plan.{Plan}
use Rattle.repl_peer.specs.session.ReadCounts.{read_in}
use Rattle.pool_workers.specs.Paging.{KeepsPages}

-- Parcel p is what the source returns for p's request.
abbrev pub IsAnswerOf : DatabaseValue → ParcelValue → Type 0
IsAnswerOf source p = p ≡ open_revs source p.asked

-- The target's sessions include the session of the run. The life of the run's session is the source's life, and the
-- session's goal is the source's update sequence.
abbrev pub HasRun : DatabaseValue → SessionId → List SessionValue → Type 0
HasRun source run sessions =
    (s : SessionValue) × (session_in sessions run ≡ Some s) × (s.life ≡ source.life) × (s.goal ≡ source.update_seq)

module _ {F : Type 0} (refuses : F → Document → Bool) where
  -- The target `now` has the same filter as the target `given`. Only calls for the run's session have changed the
  -- target from `given` to `now`. Each window or parcel that the run passes to the target comes from the source.
  abbrev pub GrownPeer : DatabaseValue → Choice → SessionId → F × PeerValue → F × PeerValue → Type 0
  GrownPeer source chosen run given now = (now.0 ≡ given.0) × IsGrown (refuses given.0) source chosen run given.1 now.1

  -- States what holds for the target while a run is in progress. During a run, only calls of the run have changed the
  -- target, and the target has the run's session. The session has read `total` documents, and the session's windows are
  -- pages of the source. If the plan limits the number of windows, the plan allows `more` further windows.
  abbrev pub TargetKeeps : DatabaseValue → Plan → Option ((F × PeerValue) × SessionId) → SessionId → ℕ → Option ℕ
      → F × PeerValue → Type 0
  TargetKeeps source plan given session total more now =
      (g : F × PeerValue) × (given ≡ Some (g, session)) × GrownPeer source plan.chosen session g now
      × (read_in now.1.sessions session ≡ total) × KeepsPages source plan session more now.1.sessions
      × HasRun source session now.1.sessions
