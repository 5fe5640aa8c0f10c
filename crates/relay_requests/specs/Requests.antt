-- Defines the text of a request, as specified in docs/PROFILE.md, "Relay" and "Requests of the relay". A request has a
-- head line with the server and the operation, and a line with the body.
use Rattle.std.specs.Prelude.{ℕ, List, [], ◌∷◌, ◌++◌, Option, None, Some, Bool, ◌==◌, length, if◌then◌else◌, codes, decimal, string_bytes}
use Rattle.json.specs.Print.{print}
use Rattle.percent_encoding.specs.Percent.{percent_encode}
use Rattle.relay_core.specs.Messages.{Text, RequestView, get_log, get_changes, revs_diff, carry_docs, put_log, tell, done}
use Rattle.relay_requests.specs.declared.requests.TheConstants.{RESERVED}
use Rattle.relay_requests.specs.declared.options.RequestOptions.{RequestOptions}
use Rattle.relay_requests.specs.Words.{side_text}
use Rattle.relay_requests.specs.Bodies.{diff_tokens, carry_tokens}
use Rattle.relay_requests.specs.Logs.{log_text}
use Rattle.relay_requests.specs.Notices.{notice_kind, notice_text, exit_status, done_tokens}

-- The percent-encoded form of a text.
abbrev pub encoded : Text → Text
encoded s = percent_encode RESERVED s

abbrev pub wait_text : Option ℕ → Text
wait_text None = []
wait_text (Some milliseconds) = codes "&feed=longpoll&timeout=" ++ decimal milliseconds

-- The parameter `filter` of a `_changes` request, or the empty text if the filter is empty.
abbrev pub filter_text : Text → Text
filter_text [] = []
filter_text (c ∷ cs) = codes "&filter=" ++ encoded (c ∷ cs)

abbrev pub query_text : Text → Text
query_text [] = []
query_text (c ∷ cs) = codes "&" ++ (c ∷ cs)

-- The method of a `_changes` request, which is POST if a selection is sent as the body.
abbrev pub changes_method : Text → Text
changes_method [] = codes "GET"
changes_method (c ∷ cs) = codes "POST"

-- The path of a `_changes` request. The parameters `wait`, `filter` and `query` are empty, or begin with `&`.
abbrev pub path_with : ℕ → Text → Text → Text → Text → Text
path_with batch since wait filter query =
    codes "/_changes?style=all_docs&limit=" ++ decimal batch ++ codes "&seq_interval=" ++ decimal batch
    ++ codes "&since=" ++ since ++ wait ++ filter ++ query

abbrev pub changes_path : RequestOptions → Text → Option ℕ → Text
changes_path o since wait = path_with o.batch (encoded since) (wait_text wait) (filter_text (string_bytes o.filter)) (query_text (string_bytes o.query))

-- The head and the body of a request, each with a line feed.
abbrev pub two_lines : Text → Text → Text
two_lines head body = head ++ codes "\n" ++ body ++ codes "\n"

abbrev pub request_text : RequestOptions → RequestView → Text
request_text o (get_log side) = two_lines (side_text side ++ codes " GET " ++ string_bytes o.log_path) []
request_text o (get_changes since wait) = two_lines (codes "source " ++ changes_method (string_bytes o.choice) ++ codes " " ++ changes_path o since wait) (string_bytes o.choice)
request_text o (revs_diff docs) = two_lines (codes "target POST /_revs_diff") (print (diff_tokens docs))
request_text o (carry_docs docs) = two_lines (codes "carry POST /_bulk_get?revs=true&latest=true&attachments=true") (print (carry_tokens docs))
request_text o (put_log side log checkpoint) = two_lines (side_text side ++ codes " PUT " ++ string_bytes o.log_path) (log_text (string_bytes o.session_id) log checkpoint)
request_text o (tell notice) = two_lines (codes "tell " ++ notice_kind notice ++ codes " -") (notice_text notice)
request_text o (done fault counts recorded) = two_lines (codes "done " ++ exit_status fault counts ++ codes " -") (print (done_tokens (string_bytes o.session_id) fault counts recorded))
