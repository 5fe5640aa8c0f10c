-- Defines the results and effects of calls on sessions, as specified in docs/PROFILE.md, "Sessions of a peer" and "Goal
-- and windows".
use Rattle.std.specs.Prelude.{◌≡◌, ℕ, ◌==◌, ◌&&◌, nat_lt, if◌then◌else◌, List, [], ◌∷◌, ◌++◌, Option, Some, None, Result, Ok, Err, IsOk}
use Rattle.std.specs.List.{find}
use Rattle.rev_tree.specs.declared.origin.SessionId.{SessionId}
use Rattle.couch_base.specs.Feed.{WindowValue}
use Rattle.range_front.specs.Front.{no_windows, end_of, low_water, appended}
use Rattle.range_front.specs.declared.fault.FrontFault.{FrontFault}
use Rattle.range_front.specs.declared.fault.FrontFault.TheVariants as front_faults
use Rattle.repl_log.specs.Counts.{no_counts}
use Rattle.repl_log.specs.declared.replication.RepId.{RepId}
use Rattle.repl_log.specs.RepId.{same_rep}
use Rattle.repl_peer.specs.peer.Peer.{PeerValue, SessionValue, session_in, holds, with_session, is_of}
use Rattle.repl_peer.specs.declared.session.beginning.Beginning.{Beginning}
use Rattle.repl_peer.specs.declared.fault.Report.{Report}
use Rattle.repl_peer.specs.declared.fault.TargetFault.{TargetFault}
use Rattle.repl_peer.specs.declared.fault.TargetFault.TheVariants as faults

-- A call's result is the expected result, or the result is `Memory` and the expected result is `Ok`.
abbrev pub GivesUnlessMemory : {A : Type 0} → Result A TargetFault → Result A TargetFault → Type 0
GivesUnlessMemory (Err faults.Memory) expected = IsOk expected
GivesUnlessMemory result expected = result ≡ expected

-- The peer's error for an error of a session's front. A front says which windows of the session are done.
abbrev pub refused_by_front : FrontFault → TargetFault
refused_by_front (front_faults.NotRising end) = faults.Gap end
refused_by_front front_faults.NoSuchWindow = faults.ForeignParcel
refused_by_front front_faults.AlreadyDone = faults.AlreadyDone
refused_by_front front_faults.Memory = faults.Memory

-- The state of peer p after the function `change` has changed the session that a lookup found. If the lookup found no
-- session (`None`), peer p is unchanged.
abbrev pub on_found : PeerValue → (SessionValue → SessionValue) → Option SessionValue → PeerValue
on_found p change None = p
on_found p change (Some s) = record p { sessions = with_session p.sessions (change s) }

abbrev pub on_session : PeerValue → SessionId → (SessionValue → SessionValue) → PeerValue
on_session p id change = on_found p change (session_in p.sessions id)

-- The result of function `answer` for the found session, or `NoSuchSession` if no session was found.
abbrev pub found_answer : {A : Type 0} → (SessionValue → Result A TargetFault) → Option SessionValue
    → Result A TargetFault
found_answer answer None = Err faults.NoSuchSession
found_answer answer (Some s) = answer s

abbrev pub session_answer : {A : Type 0} → PeerValue → SessionId → (SessionValue → Result A TargetFault)
    → Result A TargetFault
session_answer p id answer = found_answer answer (session_in p.sessions id)

-- ---- beginning

-- The result of checking a new session's start. The start must be at or below the recorded sequence of the session's
-- base, the earlier session that it continues.
abbrev pub start_answer : ℕ → ℕ → Result (Unit {0}) TargetFault
start_answer start recorded = if nat_lt recorded start then Err (faults.StartAboveBase recorded) else Ok tt

-- The peer's session with id `base`, if this session belongs to the given replication.
abbrev pub base_in : List SessionValue → RepId → SessionId → Option SessionValue
base_in sessions rep base = find (λ s. is_of base s && same_rep s.rep rep) sessions

abbrev pub on_base : ℕ → Option SessionValue → Result (Unit {0}) TargetFault
on_base start None = Err faults.NoSuchBase
on_base start (Some s) = start_answer start s.recorded

-- The result of checking a session's base and start: the base must be a session of the given replication, with a
-- recorded sequence at or above the start. If a session has no base, the session's start must be 0.
abbrev pub base_answer : List SessionValue → RepId → Option SessionId → ℕ → Result (Unit {0}) TargetFault
base_answer sessions rep None start = start_answer start 0
base_answer sessions rep (Some base) start = on_base start (base_in sessions rep base)

abbrev pub goal_answer : ℕ → ℕ → Result (Unit {0}) TargetFault → Result (Unit {0}) TargetFault
goal_answer start goal (Err fault) = Err fault
goal_answer start goal (Ok done) = if nat_lt goal start then Err faults.GoalBelowStart else Ok tt

-- The result of beginning session `id` with parameters b at peer p, if no allocation fails.
abbrev pub begin_answer : PeerValue → SessionId → Beginning → Result (Unit {0}) TargetFault
begin_answer p id b =
    if holds p.sessions id then Err faults.SessionExists
    else goal_answer b.start b.scope.goal (base_answer p.sessions b.scope.rep b.scope.base b.start)

-- A new session, begun at timestamp `at`. A new session has no windows, and the recorded sequence of the session is the
-- session's start.
abbrev pub new_session : SessionId → Beginning → ℕ → SessionValue
new_session id b at = record {
  id = id;
  scope = b.scope;
  front = no_windows b.start;
  windows = [];
  recorded = b.start;
  arrivals = [];
  ledger = [];
  counts = no_counts;
  start_time = at;
  end_time = at;
}

-- Peer p after adding session s as the newest session, or the unchanged peer if the checks of s gave an error.
abbrev pub begun : PeerValue → SessionValue → Result (Unit {0}) TargetFault → PeerValue
begun p s (Ok done) = record p { sessions = s ∷ p.sessions }
begun p s (Err fault) = p

abbrev pub after_begin : PeerValue → SessionId → Beginning → ℕ → PeerValue
after_begin p id b at = begun p (new_session id b at) (begin_answer p id b)

-- ---- appending

-- The result of checking a window's bounds: the window must begin at the end of the session's stored windows, and end
-- at or below the goal.
abbrev pub next_in : WindowValue → SessionValue → Result (Unit {0}) TargetFault
next_in w s =
    if w.lo == end_of s.front then (if nat_lt s.goal w.hi then Err faults.PastGoal else Ok tt)
    else Err (faults.Gap (end_of s.front))

-- The result of appending window w to session s, if no allocation fails. Window w and session s must have the same
-- life, the incarnation number of the source's database (see docs/PROFILE.md, "Backup and restore").
abbrev pub append_in : WindowValue → SessionValue → Result (Unit {0}) TargetFault
append_in w s = if w.life == s.life then next_in w s else Err (faults.OtherLife s.life)

abbrev pub append_answer : PeerValue → SessionId → WindowValue → Result (Unit {0}) TargetFault
append_answer p id w = session_answer p id (append_in w)

abbrev pub with_window : WindowValue → SessionValue → Result (Unit {0}) TargetFault → SessionValue
with_window w s (Ok done) = record s { front = appended s.front w.hi; windows = s.windows ++ w ∷ [] }
with_window w s (Err fault) = s

-- Peer p after appending window w to session `id`, or the unchanged peer if the window cannot be appended.
abbrev pub after_append : PeerValue → SessionId → WindowValue → PeerValue
after_append p id w = on_session p id (λ s. with_window w s (append_in w s))

-- ---- recording

-- The state of session s after recording its low water as the recorded sequence, at timestamp `at`.
abbrev pub recorded_at : ℕ → SessionValue → SessionValue
recorded_at at s = record s { recorded = low_water s.front; end_time = at }

abbrev pub record_answer : PeerValue → SessionId → Result ℕ TargetFault
record_answer p id = session_answer p id (λ s. Ok (low_water s.front))

abbrev pub after_record : PeerValue → SessionId → ℕ → PeerValue
after_record p id at = on_session p id (recorded_at at)

-- The report that the call `conclude` returns for session s.
abbrev pub report_of : SessionValue → Report
report_of s = record {
  session = s.id;
  start = s.front.start;
  recorded = s.recorded;
  counts = s.counts;
}

-- The result of the call `conclude` for session s: a report if the low water of s equals the goal of s, otherwise
-- `Unfinished`.
abbrev pub conclude_in : SessionValue → Result Report TargetFault
conclude_in s =
    if low_water s.front == s.goal then Ok (report_of (record s { recorded = low_water s.front }))
    else Err (faults.Unfinished (low_water s.front))

abbrev pub conclude_answer : PeerValue → SessionId → Result Report TargetFault
conclude_answer p id = session_answer p id conclude_in

abbrev pub after_conclude : PeerValue → SessionId → ℕ → PeerValue
after_conclude p id at = on_session p id (λ s. if low_water s.front == s.goal then recorded_at at s else s)
