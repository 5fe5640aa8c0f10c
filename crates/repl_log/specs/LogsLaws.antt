-- Lemmas for dependent crates. Looking up a replication in a list of logs finds the log that `log_in` returns.
use Rattle.std.proofs.Common.{◌≡◌, Bool, true, false, cond, List, [], ◌∷◌, Option, Some, None, unwrap_or, refl, ap, ◌∙◌}
use Rattle.std.specs.Map.{lookup}
use Rattle.repl_log.specs.declared.replication.RepId.{RepId}
use Rattle.repl_log.specs.Entry.{EntryValue}
use Rattle.repl_log.specs.RepId.{same_rep}
use Rattle.repl_log.specs.Logs.{log_in}

abbrev pub LogsValue : Type 0
LogsValue = List (RepId × List EntryValue)

lookup_step : (b : Bool) (l : RepId × List EntryValue) (log : List EntryValue) (o : Option (List EntryValue)) → log ≡ unwrap_or o [] → cond b l.1 log ≡ unwrap_or (cond b (Some l.1) o) []
lookup_step true l log o rest = refl
lookup_step false l log o rest = rest

log_in-lookup : (rep : RepId) (logs : LogsValue) → log_in logs rep ≡ unwrap_or (lookup (same_rep rep) logs) []
log_in-lookup rep [] = refl
log_in-lookup rep (l ∷ logs) = lookup_step (same_rep rep l.0) l (log_in logs rep) (lookup (same_rep rep) logs) (log_in-lookup rep logs)

pub log_in-found : (rep : RepId) (logs : LogsValue) (log : List EntryValue) → lookup (same_rep rep) logs ≡ Some log → log_in logs rep ≡ log
log_in-found rep logs log is = log_in-lookup rep logs ∙ ap (λ o. unwrap_or o []) is

pub log_in-absent : (rep : RepId) (logs : LogsValue) → lookup (same_rep rep) logs ≡ None → log_in logs rep ≡ []
log_in-absent rep logs is = log_in-lookup rep logs ∙ ap (λ o. unwrap_or o []) is
