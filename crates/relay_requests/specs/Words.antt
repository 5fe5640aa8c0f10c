-- Defines the texts of requests and faults, as specified in docs/PROFILE.md, "Faults of the relay".
use Rattle.std.specs.Prelude.{ℕ, List, [], ◌∷◌, ◌++◌, Option, None, Some, codes, decimal}
use Rattle.json.specs.Token.{string}
use Rattle.json.specs.Print.{print}
use Rattle.relay_core.specs.declared.messages.Side.{Side}
use Rattle.relay_core.specs.declared.messages.Side.TheVariants.{Source, Target}
use Rattle.relay_core.specs.declared.messages.Operation.{Operation}
use Rattle.relay_core.specs.declared.messages.Operation.TheVariants.{ReadLog, Changes, RevsDiff, Carry, WriteLog}
use Rattle.relay_core.specs.Messages.{Text, FaultView, unanswered, bad_status, not_json, bad_feed, bad_diff, bad_answer, bad_log, refused, unaccounted, log_changed}

abbrev pub side_text : Side → Text
side_text Source = codes "source"
side_text Target = codes "target"

abbrev pub operation_text : Operation → Text
operation_text ReadLog = codes "GET _local"
operation_text Changes = codes "_changes"
operation_text RevsDiff = codes "_revs_diff"
operation_text Carry = codes "_bulk_docs"
operation_text WriteLog = codes "PUT _local"

-- The phrase with which an error message describes the required response to a request.
abbrev pub expected_text : Operation → Text
expected_text ReadLog = codes "a replication log"
expected_text Changes = codes "a page of changes"
expected_text RevsDiff = codes "an object of missing revisions"
expected_text Carry = codes "a list"
expected_text WriteLog = codes "an object with \"ok\":true"

-- A text as a JSON string.
abbrev pub quoted : Text → Text
quoted s = print (string s ∷ [])

-- ---- faults

abbrev pub fault_name : FaultView → Text
fault_name (unanswered side operation) = codes "unanswered"
fault_name (bad_status side operation status words) = codes "status"
fault_name (not_json operation) = codes "not_json"
fault_name bad_feed = codes "bad_feed"
fault_name bad_diff = codes "bad_diff"
fault_name (bad_answer operation) = codes "bad_answer"
fault_name (bad_log side) = codes "bad_log"
fault_name (refused id side status words) = codes "refused"
fault_name (unaccounted id rev error count) = codes "unaccounted"
fault_name log_changed = codes "log_changed"

-- The text for the error of a `_bulk_docs` row, in the form `, ERROR: REASON`. The text is empty if no row reports an
-- error.
abbrev pub row_error_text : Option (Text × Text) → Text
row_error_text None = []
row_error_text (Some e) = codes ", " ++ e.0 ++ codes ": " ++ e.1

abbrev pub missing_text : Text → Text → Text → ℕ → Text
missing_text id rev error count = id ++ codes " " ++ rev ++ codes " is missing on the target and was not refused" ++ error ++ codes "; " ++ decimal count ++ codes " in all"

abbrev pub fault_text : FaultView → Text
fault_text (unanswered side operation) = codes "incomplete response from the " ++ side_text side ++ codes " to " ++ operation_text operation
fault_text (bad_status side operation status words) = codes "status " ++ decimal status ++ codes " from the " ++ side_text side ++ codes " for " ++ operation_text operation ++ codes ": " ++ words
fault_text (not_json operation) = codes "the response to " ++ operation_text operation ++ codes " is not JSON"
fault_text bad_feed = codes "the response to _changes is not a page of changes"
fault_text bad_diff = codes "the response to _revs_diff is not an object of missing revisions, or it names a revision that was not requested"
fault_text (bad_answer operation) = codes "the response to " ++ operation_text operation ++ codes " is not " ++ expected_text operation
fault_text (bad_log side) = codes "the replication log of the " ++ side_text side ++ codes " has no _rev, or its history is not a list"
fault_text (refused id side status words) = codes "status " ++ decimal status ++ codes " from the " ++ side_text side ++ codes " for document " ++ quoted id ++ codes " alone: " ++ words
fault_text (unaccounted id rev error count) = missing_text (quoted id) rev (row_error_text error) count
fault_text log_changed = codes "another replication writes the same replication logs"
