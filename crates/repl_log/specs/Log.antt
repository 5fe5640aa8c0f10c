-- Defines logs, and the common checkpoint of two logs, as specified in docs/PROFILE.md, "Replication ids and logs" and
-- "Common checkpoint".
use Rattle.std.specs.Prelude.{◌≡◌, ℕ, Bool, false, ◌==◌, nat_eq, nat_lt, if◌then◌else◌, min, List, ◌∷◌, ◌++◌, map, Option, Some, None, option_and_then, Result, Ok, Err}
use Rattle.std.specs.List.{find, list_any, IsDistinct, AllByRecursion}
use Rattle.std.specs.Option.{option_map}
use Rattle.rev_tree.specs.declared.origin.SessionId.{SessionId}
use Rattle.repl_log.specs.declared.fault.LogFault.{LogFault}
use Rattle.repl_log.specs.declared.fault.LogFault.TheVariants as faults
use Rattle.repl_log.specs.Entry.{EntryValue, IsSound}

-- Whether e is the entry of session s.
abbrev pub is_of : SessionId → EntryValue → Bool
is_of s e = e.session.0 == s.0

-- Whether the log has an entry of session s.
abbrev pub holds : List EntryValue → SessionId → Bool
holds log s = list_any (is_of s) log

-- The entry of session s, if the log has one.
abbrev pub entry_for : List EntryValue → SessionId → Option EntryValue
entry_for log s = find (is_of s) log

-- The recorded sequence of session s, if the log has an entry of s.
abbrev pub recorded_of : List EntryValue → SessionId → Option ℕ
recorded_of log s = option_map (λ e. e.recorded) (entry_for log s)

-- ---- the effect of `put`

-- The log `log`, with the entry e instead of the log's entry for the session of e.
abbrev pub replaced : List EntryValue → EntryValue → List EntryValue
replaced log e = map (λ x. if is_of e.session x then e else x) log

-- The log after a put of entry e. A put makes the entry of a new session the first entry, and replaces the entry of a
-- known session.
abbrev pub with_entry : List EntryValue → EntryValue → List EntryValue
with_entry log e = if holds log e.session then replaced log e else e ∷ log

-- The result of a put of entry e into a log. The second argument is the log's stored entry of e's session, or `None` if
-- the log has no entry of this session. The put fails with `Older` if the stored entry of the session has a greater
-- recorded sequence than the new entry.
abbrev pub put_beside : EntryValue → Option EntryValue → Result (Unit {0}) LogFault
put_beside e None = Ok tt
put_beside e (Some stored) = if nat_lt e.recorded stored.recorded then Err (faults.Older stored.recorded) else Ok tt

-- The result of a put of entry e into the log, if no allocation fails.
abbrev pub put_answer : List EntryValue → EntryValue → Result (Unit {0}) LogFault
put_answer log e = put_beside e (entry_for log e.session)

-- The new log has entry e for e's session, and the old log's entry for every other session.
abbrev pub ChangesOnly : List EntryValue → List EntryValue → EntryValue → Type 0
ChangesOnly old new e = (s : SessionId) → entry_for new s ≡ (if is_of s e then Some e else entry_for old s)

-- ---- the common checkpoint

-- The newest entry of the target's log whose session is also in the source's log.
abbrev pub shared : List EntryValue → List EntryValue → Option EntryValue
shared source target = find (λ t. holds source t.session) target

-- The checkpoint of the target's entry t and the source's entry s: the session of t, and the lesser of the recorded
-- sequences of t and s.
abbrev pub lesser_of : EntryValue → EntryValue → SessionId × ℕ
lesser_of t s = (t.session, min s.recorded t.recorded)

-- The session of entry t in the target's log, and the lesser of the session's recorded sequences in the logs of source
-- and target. The checkpoint is `None` if the source's log lacks the session of the target's entry.
abbrev pub checkpoint_at : List EntryValue → EntryValue → Option (SessionId × ℕ)
checkpoint_at source t = option_map (lesser_of t) (entry_for source t.session)

-- The newest session of the target's log that is also in the source's log, and the lesser of the two sequences recorded
-- for the session. If no session is in both logs, there is no common checkpoint.
abbrev pub common : List EntryValue → List EntryValue → Option (SessionId × ℕ)
common source target = option_and_then (checkpoint_at source) (shared source target)

-- Session s and sequence n are the common checkpoint of the logs of a source and a target.
pub record IsCommon (source target : List EntryValue) (s : SessionId) (n : ℕ) : Type 0 where
  pub newer : List EntryValue
  pub older : List EntryValue
  pub at_target : EntryValue
  pub at_source : EntryValue
  -- The sessions of the target's log that are newer than the checkpoint's session are not in the source's log.
  pub target_is : target ≡ newer ++ at_target ∷ older
  pub none_newer : list_any (λ t. holds source t.session) newer ≡ false
  -- The logs of source and target both have the session of the checkpoint.
  pub target_has : entry_for target s ≡ Some at_target
  pub source_has : entry_for source s ≡ Some at_source
  -- The checkpoint's sequence n is the lesser of the sequences that the two logs record for the session.
  pub lesser : n ≡ min at_source.recorded at_target.recorded

-- The source's log and the target's log have no session in common.
abbrev pub IsUnshared : List EntryValue → List EntryValue → Type 0
IsUnshared source target = list_any (λ t. holds source t.session) target ≡ false

-- ---- the invariant

abbrev pub session_numbers : List EntryValue → List ℕ
session_numbers log = map (λ e. e.session.0) log

-- The invariant of a log: its sessions are distinct, and each of its entries satisfies the invariant of an entry.
pub record IsLog (log : List EntryValue) : Type 0 where
  pub distinct : IsDistinct nat_eq (session_numbers log)
  pub sound : AllByRecursion IsSound log
