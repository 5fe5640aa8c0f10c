-- Defines tables with the logs of replications, as specified in docs/PROFILE.md, "Replication ids and logs".
use Rattle.std.specs.Prelude.{List, [], ◌∷◌, Result, if◌then◌else◌}
use Rattle.repl_log.specs.declared.replication.RepId.{RepId}
use Rattle.repl_log.specs.declared.fault.LogFault.{LogFault}
use Rattle.repl_log.specs.Entry.{EntryValue}
use Rattle.repl_log.specs.Log.{with_entry, put_answer}
use Rattle.repl_log.specs.RepId.{same_rep}

-- The log of a replication, or the empty list if the replication has no log.
abbrev pub log_in : List (RepId × List EntryValue) → RepId → List EntryValue
log_in [] rep = []
log_in (l ∷ logs) rep = if same_rep rep l.0 then l.1 else log_in logs rep

-- The table of logs after entry e was stored in the log of the replication `rep`. If `rep` has no log, a new log is
-- added after the other logs.
abbrev pub logs_with : List (RepId × List EntryValue) → RepId → EntryValue → List (RepId × List EntryValue)
logs_with [] rep e = (rep, with_entry [] e) ∷ []
logs_with (l ∷ logs) rep e = if same_rep rep l.0 then (l.0, with_entry l.1 e) ∷ logs else l ∷ logs_with logs rep e

-- The result of storing entry e in the log of a replication, if no allocation fails.
abbrev pub put_answer_in : List (RepId × List EntryValue) → RepId → EntryValue → Result (Unit {0}) LogFault
put_answer_in logs rep e = put_answer (log_in logs rep) e
