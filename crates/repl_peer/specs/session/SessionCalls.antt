-- Defines the results and effects of those calls of a peer that use only the peer's sessions.
use Rattle.std.specs.Prelude.{Bool, ℕ, List, Option, Some, None, Result, Ok, Err, if◌then◌else◌}
use Rattle.std.specs.List.{list_any}
use Rattle.rev_core.specs.Rev.{RevId}
use Rattle.rev_tree.specs.declared.origin.SessionId.{SessionId}
use Rattle.repl_log.specs.declared.replication.RepId.{RepId}
use Rattle.repl_log.specs.declared.entry.Entry.{Entry}
use Rattle.repl_log.specs.Entry.{EntryValue, value_of}
use Rattle.couch_base.specs.Database.{Id}
use Rattle.repl_peer.specs.peer.Peer.{SessionValue, session_in, holds, with_session}
use Rattle.repl_peer.specs.peer.Covered.{in_ledger}
use Rattle.repl_peer.specs.session.Sessions.{found_answer, base_in, base_answer, goal_answer}
use Rattle.repl_peer.specs.declared.session.beginning.Beginning.{Beginning}
use Rattle.repl_peer.specs.declared.fault.TargetFault.{TargetFault}
use Rattle.repl_peer.specs.declared.fault.TargetFault.TheVariants as faults

-- A peer's sessions after the function `change` has changed the session that a lookup found. If the lookup found no
-- session (`None`), the peer's sessions are unchanged.
abbrev pub changed : (SessionValue → SessionValue) → List SessionValue → Option SessionValue → List SessionValue
changed change sessions None = sessions
changed change sessions (Some s) = with_session sessions (change s)

abbrev pub with_changed : List SessionValue → SessionId → (SessionValue → SessionValue) → List SessionValue
with_changed sessions id change = changed change sessions (session_in sessions id)

-- The result of function `answer` for the session with the given id, or `NoSuchSession` if the peer does not have the
-- session.
abbrev pub answer_in : {A : Type 0} → List SessionValue → SessionId → (SessionValue → Result A TargetFault)
    → Result A TargetFault
answer_in sessions id answer = found_answer answer (session_in sessions id)

-- The result of beginning session `id` with parameters b, if no allocation fails.
abbrev pub begin_in : List SessionValue → SessionId → Beginning → Result (Unit {0}) TargetFault
begin_in sessions id b =
    if holds sessions id then Err faults.SessionExists
    else goal_answer b.start b.scope.goal (base_answer sessions b.scope.rep b.scope.base b.start)

-- The recorded sequence of the earlier session that a new session continues (its base), or `NoSuchBase` if the peer has
-- no such session.
abbrev pub recorded_of : Option SessionValue → Result ℕ TargetFault
recorded_of None = Err faults.NoSuchBase
recorded_of (Some s) = Ok s.recorded

abbrev pub recorded_by : List SessionValue → RepId → Option SessionId → Result ℕ TargetFault
recorded_by sessions rep None = Ok 0
recorded_by sessions rep (Some base) = recorded_of (base_in sessions rep base)

-- Whether the ledger of one of the sessions has revision r of document `id`.
abbrev pub in_ledgers : List SessionValue → Id → RevId → Bool
in_ledgers sessions id r = list_any (λ s. in_ledger s.ledger id r) sessions

-- The result of a call that returns a log entry, after converting the entry from the program's type `Entry` to the
-- specification's type `EntryValue`.
abbrev pub entry_value : Result Entry TargetFault → Result EntryValue TargetFault
entry_value (Ok e) = Ok (value_of e)
entry_value (Err fault) = Err fault
