-- Defines the functions that convert the relay's messages from their stored form to the values that contracts use.
use Rattle.std.specs.Prelude.{List, map, option_map, String, string_bytes}
use Rattle.std.specs.Global.{Global}
use Rattle.relay_core.specs.declared.messages.DocLeaves.{DocLeaves}
use Rattle.relay_core.specs.declared.messages.ChangesPage.{ChangesPage}
use Rattle.relay_core.specs.declared.messages.RowError.{RowError}
use Rattle.relay_core.specs.declared.messages.LogEntry.{LogEntry}
use Rattle.relay_core.specs.declared.messages.ReplicationLog.{ReplicationLog}
use Rattle.relay_core.specs.declared.messages.Fault.{Fault}
use Rattle.relay_core.specs.declared.messages.Fault.TheVariants as faults
use Rattle.relay_core.specs.declared.messages.Checkpoint.{Checkpoint}
use Rattle.relay_core.specs.declared.messages.Notice.{Notice}
use Rattle.relay_core.specs.declared.messages.Notice.TheVariants as notices
use Rattle.relay_core.specs.declared.messages.Request.{Request}
use Rattle.relay_core.specs.declared.messages.Request.TheVariants as requests
use Rattle.relay_core.specs.declared.messages.Response.{Response}
use Rattle.relay_core.specs.declared.messages.Response.TheVariants as responses
use Rattle.relay_core.specs.Messages.{Text, DocView, PageView, RowErrorView, EntryView, LogView, FaultView, unanswered, bad_status, not_json, bad_feed, bad_diff, bad_answer, bad_log, refused, unaccounted, log_changed, CheckpointView, NoticeView, leaf_refused, restarted, progress, RequestView, get_log, get_changes, revs_diff, carry_docs, put_log, tell, done, ResponseView, log_response, page_response, missing_response, row_errors_response, rejected_response, stored_response, conflict_response, noted_response, fault_response}

abbrev pub texts_of : List (String Global) → List Text
texts_of xs = map string_bytes xs

abbrev pub doc_view : DocLeaves → DocView
doc_view d = (string_bytes d.id, texts_of d.revs.items)

abbrev pub docs_view : List DocLeaves → List DocView
docs_view ds = map doc_view ds

abbrev pub page_view : ChangesPage → PageView
page_view p = record { rows = docs_view p.rows.items; last_seq = string_bytes p.last_seq; is_last = p.is_last; pending = option_map string_bytes p.pending }

abbrev pub row_error_view : RowError → RowErrorView
row_error_view e = record { id = string_bytes e.id; rev = option_map string_bytes e.rev; error = string_bytes e.error; reason = string_bytes e.reason }

abbrev pub row_errors_view : List RowError → List RowErrorView
row_errors_view es = map row_error_view es

abbrev pub entry_view : LogEntry → EntryView
entry_view e = record { session = string_bytes e.session_id; seq = string_bytes e.recorded_seq; json = string_bytes e.json }

abbrev pub entries_view : List LogEntry → List EntryView
entries_view es = map entry_view es

abbrev pub log_view : ReplicationLog → LogView
log_view l = record { rev = option_map string_bytes l.rev; history = entries_view l.history.items }

abbrev pub fault_view : Fault → FaultView
fault_view (faults.Unanswered side operation) = unanswered side operation
fault_view (faults.Status side operation status words) = bad_status side operation status (string_bytes words)
fault_view (faults.NotJson operation) = not_json operation
fault_view faults.BadFeed = bad_feed
fault_view faults.BadDiff = bad_diff
fault_view (faults.BadAnswer operation) = bad_answer operation
fault_view (faults.BadLog side) = bad_log side
fault_view (faults.Refused id side status words) = refused (string_bytes id) side status (string_bytes words)
fault_view (faults.Unaccounted u) = unaccounted (string_bytes u.id) (string_bytes u.rev) (option_map (λ e. (string_bytes e.0, string_bytes e.1)) u.error) u.count
fault_view faults.LogChanged = log_changed

abbrev pub checkpoint_view : Checkpoint → CheckpointView
checkpoint_view c = record { start_time = string_bytes c.start_time; end_time = string_bytes c.end_time; start_last_seq = string_bytes c.start_last_seq; seq = string_bytes c.seq; counts = c.counts }

abbrev pub notice_view : Notice → NoticeView
notice_view (notices.Refused leaf) = leaf_refused (string_bytes leaf.id) (string_bytes leaf.rev) (string_bytes leaf.error) (string_bytes leaf.reason)
notice_view notices.Restarted = restarted
notice_view (notices.Progress counts pending) = progress counts (option_map string_bytes pending)

abbrev pub request_view : Request → RequestView
request_view (requests.GetLog side) = get_log side
request_view (requests.GetChanges since wait) = get_changes since.now wait
request_view (requests.RevsDiff docs) = revs_diff (docs_view docs.now)
request_view (requests.Carry docs) = carry_docs (docs_view docs.now)
request_view (requests.PutLog side log checkpoint) = put_log side (log_view log.now) (checkpoint_view checkpoint.now)
request_view (requests.Tell notice) = tell (notice_view notice.now)
request_view (requests.Done fault counts recorded) = done (option_map (λ f. fault_view f.now) fault) counts.now recorded.now

abbrev pub response_view : Response → ResponseView
response_view (responses.Log log) = log_response (log_view log)
response_view (responses.Page page) = page_response (page_view page)
response_view (responses.Missing docs) = missing_response (docs_view docs.items)
response_view (responses.RowErrors rows) = row_errors_response (row_errors_view rows.items)
response_view (responses.CarryRejected side status words) = rejected_response side status (string_bytes words)
response_view responses.Stored = stored_response
response_view responses.Conflict = conflict_response
response_view responses.Noted = noted_response
response_view (responses.Fault fault) = fault_response (fault_view fault)
