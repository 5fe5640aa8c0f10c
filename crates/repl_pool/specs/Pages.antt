-- Defines the windows of the source's feed that a run of the pool stores, as specified in docs/PROFILE.md, "Goal and
-- windows" and "The pool".
use Rattle.std.specs.Prelude.{◌≡◌, ℕ, ◌<◌, ◌≤◌, List, [], ◌∷◌, length, Option, Some, None}
use Rattle.couch_base.specs.Database.{DatabaseValue}
use Rattle.couch_base.specs.Feed.{WindowValue}
use Rattle.repl_peer.specs.peer.Peer.{PeerValue, SessionValue, session_in}
use Rattle.repl_target.specs.declared.replication.Plan.{Plan}
use Rattle.repl_target.specs.replication.Replication.{start_between, next_window}

-- The list has consecutive windows of the source's feed, and the first window begins at sequence `since`. The plan
-- gives each window's maximum number of rows, and the selection of documents.
abbrev pub ArePages : DatabaseValue → Plan → ℕ → List WindowValue → Type 0
ArePages source plan since [] = Unit {0}
ArePages source plan since (w ∷ windows) =
    (since < source.update_seq) × (w ≡ next_window source plan since) × ArePages source plan w.hi windows

-- If a plan limits the number of windows (`stop_after`), n is at most this limit.
abbrev pub AreAllowed : Option ℕ → ℕ → Type 0
AreAllowed None n = Unit {0}
AreAllowed (Some stop_after) n = n ≤ stop_after

-- The windows of the run's session are consecutive pages of the source's selected feed, starting at the common
-- checkpoint. The limit of each window is the plan's batch, and the session has at most as many windows as the plan
-- allows.
pub record IsPaged (source target target' : PeerValue) (plan : Plan) : Type 0 where
  pub session : SessionValue
  pub held : session_in target'.sessions plan.session ≡ Some session
  pub pages : ArePages source.db plan (start_between source target plan.chosen) session.windows
  pub allowed : AreAllowed plan.stop_after (length session.windows)
