-- This file defines the error rows and the replication logs in responses, as specified in docs/PROFILE.md, "Responses
-- to the relay".
use Rattle.std.specs.Prelude.{List, [], Option, None, Some, option_map, option_and_then, codes, Bool, false}
use Rattle.std.specs.Option.{option_map_or}
use Rattle.json.specs.Json.{Json, null, boolean, number, string, array, object}
use Rattle.json.specs.Find.{get, as_array, as_bool}
use Rattle.json.specs.Print.{print}
use Rattle.json.specs.Tree.{json_tokens}
use Rattle.relay_core.specs.Messages.{Text, RowErrorView, EntryView, LogView}
use Rattle.relay_responses.specs.Read.{text_at, both, sequence_at, some_items}

-- ---- rows with errors

abbrev pub text_or_empty : Option Text → Text
text_or_empty None = []
text_or_empty (Some s) = s

abbrev pub row_error_of : Json → Text × Text → RowErrorView
row_error_of j p = record { id = p.0; rev = text_at (codes "rev") j; error = p.1; reason = text_or_empty (text_at (codes "reason") j) }

abbrev pub row_error_in : Json → Option RowErrorView
row_error_in j = option_map (row_error_of j) (both (text_at (codes "id") j) (text_at (codes "error") j))

abbrev pub row_errors_in : Json → Option (List RowErrorView)
row_errors_in j = option_map (some_items row_error_in) (as_array j)

-- ---- logs

abbrev pub entry_of : Json → Text × Text → EntryView
entry_of j p = record { session = p.0; seq = p.1; json = print (json_tokens j) }

-- The history entry that a JSON value describes, or `None` if the value lacks a session or a recorded sequence.
abbrev pub entry_in : Json → Option EntryView
entry_in j = option_map (entry_of j) (both (text_at (codes "session_id") j) (sequence_at (codes "recorded_seq") j))

-- The entries of a log's history. The list is empty if the log has no history, and the result is `None` if the history
-- is not a list.
abbrev pub history_of : Option Json → Option (List EntryView)
history_of None = Some []
history_of (Some null) = None
history_of (Some (boolean b)) = None
history_of (Some (number s)) = None
history_of (Some (string s)) = None
history_of (Some (array js)) = Some (some_items entry_in js)
history_of (Some (object ms)) = None

abbrev pub log_of : Text × List EntryView → LogView
log_of p = record { rev = Some p.0; history = p.1 }

abbrev pub log_in : Json → Option LogView
log_in j = option_map log_of (both (text_at (codes "_rev") j) (history_of (get (codes "history") j)))

abbrev pub no_log : LogView
no_log = record { rev = None; history = [] }

-- ---- what is stored

abbrev pub is_stored : Json → Bool
is_stored j = option_map_or (λ b. b) (option_and_then as_bool (get (codes "ok") j)) false
