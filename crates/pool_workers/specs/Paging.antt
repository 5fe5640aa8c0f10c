-- Defines statements about the windows that a run of the pool has stored so far, as specified in docs/PROFILE.md, "Goal
-- and windows" and "The pool".
use Rattle.std.specs.Prelude.{◌≡◌, ℕ, ◌+◌, ◌<◌, Bool, true, List, [], length, Option, Some, None}
use Rattle.rev_tree.specs.declared.origin.SessionId.{SessionId}
use Rattle.couch_base.specs.Lists.{Among}
use Rattle.couch_base.specs.Database.{DatabaseValue}
use Rattle.couch_base.specs.Feed.{WindowValue}
use Rattle.repl_peer.specs.peer.Peer.{SessionValue}
use Rattle.repl_target.specs.declared.replication.Plan.{Plan}
use Rattle.repl_target.specs.replication.Replication.{is_batch, next_window, has_left}

-- Window w is the page of the source's selected feed that a run with the given plan reads next after the sequence
-- `w.lo`.
abbrev pub IsNext : DatabaseValue → Plan → WindowValue → Type 0
IsNext source plan w =
    (is_batch plan.batch ≡ true) × (w.lo < source.update_seq) × (w ≡ next_window source plan w.lo)

-- After n windows, a plan allows `more` further windows, or any number if `more` is `None`.
abbrev pub AllowsMore : Option ℕ → ℕ → Option ℕ → Type 0
AllowsMore None n more = more ≡ None
AllowsMore (Some stop_after) n None = ⊥
AllowsMore (Some stop_after) n (Some more) = n + more ≡ stop_after

-- If `more` is a number of further windows, `less` is one less than this number. If `more` is `None`, `less` is also
-- `None`.
abbrev pub IsOneLess : Option ℕ → Option ℕ → Type 0
IsOneLess None less = less ≡ None
IsOneLess (Some more) None = ⊥
IsOneLess (Some more) (Some less) = more ≡ less + 1

-- Each window w of a list is a page of the source's selected feed, and this page begins at w's lower bound. If the plan
-- limits the number of a run's windows, this limit is the length of the list plus `more`.
abbrev pub HasPages : DatabaseValue → Plan → Option ℕ → List WindowValue → Type 0
HasPages source plan more windows =
    ((w : WindowValue) → Among w windows → IsNext source plan w) × AllowsMore plan.stop_after (length windows) more

-- The windows of the run's session are pages of the source, and the plan allows `more` further windows.
abbrev pub KeepsPages : DatabaseValue → Plan → SessionId → Option ℕ → List SessionValue → Type 0
KeepsPages source plan run more sessions =
    (s : SessionValue) → Among s sessions → s.id ≡ run → HasPages source plan more s.windows

-- The session of the run has no windows yet.
abbrev pub HasNoWindows : SessionId → List SessionValue → Type 0
HasNoWindows run sessions = (s : SessionValue) → Among s sessions → s.id ≡ run → s.windows ≡ []

-- The Boolean `lets` is true exactly if the plan allows the run's session to store another window.
abbrev pub LetsStore : Plan → SessionId → Bool → List SessionValue → Type 0
LetsStore plan run lets sessions =
    (s : SessionValue) → Among s sessions → s.id ≡ run → has_left plan.stop_after (length s.windows) ≡ lets
