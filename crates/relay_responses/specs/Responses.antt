-- Defines the meaning of a server's response, which depends on the request, as specified in docs/PROFILE.md, "Responses
-- to the relay" and "Faults of the relay".
use Rattle.std.specs.Prelude.{ℕ, Bool, ◌==◌, ◌&&◌, ◌||◌, not, nat_le, nat_lt, if◌then◌else◌, List, ◌++◌, Option, None, Some, option_and_then, codes}
use Rattle.std.specs.Option.{option_map_or}
use Rattle.json.specs.Json.{Json}
use Rattle.relay_core.specs.declared.messages.Side.{Side}
use Rattle.relay_core.specs.declared.messages.Side.TheVariants.{Source, Target}
use Rattle.relay_core.specs.declared.messages.Operation.{Operation}
use Rattle.relay_core.specs.declared.messages.Operation.TheVariants.{ReadLog, Changes, RevsDiff, Carry, WriteLog}
use Rattle.relay_core.specs.Messages.{Text, DocView, FaultView, unanswered, bad_status, not_json, bad_feed, bad_diff, bad_answer, bad_log, RequestView, get_log, get_changes, revs_diff, carry_docs, put_log, tell, done, ResponseView, log_response, page_response, missing_response, row_errors_response, rejected_response, stored_response, conflict_response, noted_response, fault_response}
use Rattle.relay_responses.specs.Read.{json_in, text_at, both}
use Rattle.relay_responses.specs.Pages.{page_in}
use Rattle.relay_responses.specs.Diffs.{diff_in}
use Rattle.relay_responses.specs.Logs.{row_errors_in, log_in, no_log, is_stored}

-- ---- statuses

abbrev pub is_success : ℕ → Bool
is_success status = status == 200 || status == 201 || status == 202

-- Whether the status of a failed `carry` request means that the request may succeed with fewer documents.
abbrev pub is_rejection : ℕ → Bool
is_rejection status =
    nat_le 400 status && nat_lt status 500 && not (status == 401 || status == 403 || status == 404 || status == 408 || status == 429)

-- ---- errors and reasons

abbrev pub words_of : Text × Text → Text
words_of p = p.0 ++ codes ": " ++ p.1

-- The error and the reason in the body of a response, or `no error text` if the body does not have both.
abbrev pub words_in : Text → Text
words_in body = option_map_or words_of (option_and_then (λ j. both (text_at (codes "error") j) (text_at (codes "reason") j)) (json_in body)) (codes "no error text")

-- ---- responses

-- The response that the function f computes from a JSON body, or a fault if the body is not JSON.
abbrev pub json_response : Operation → Text → (Json → ResponseView) → ResponseView
json_response operation body f = option_map_or f (json_in body) (fault_response (not_json operation))

-- The response that the function f computes from a JSON body, or a fault if the status is not a success or the body is
-- not JSON.
abbrev pub read_as : Side → Operation → ℕ → Text → (Json → ResponseView) → ResponseView
read_as side operation status body f =
    if status == 0 then fault_response (unanswered side operation)
    else if is_success status then json_response operation body f
    else fault_response (bad_status side operation status (words_in body))

-- The response that the function f computes from an optional value, or the given fault if there is no value.
abbrev pub or_fault : {A : Type 0} → (A → ResponseView) → FaultView → Option A → ResponseView
or_fault f fault o = option_map_or f o (fault_response fault)

abbrev pub log_response_in : Side → Side → ℕ → Text → ResponseView
log_response_in side from status body =
    if status == 404 then json_response ReadLog body (λ j. log_response no_log)
    else read_as from ReadLog status body (λ j. or_fault log_response (bad_log side) (log_in j))

abbrev pub page_response_in : Side → ℕ → Text → ResponseView
page_response_in from status body = read_as from Changes status body (λ j. or_fault page_response bad_feed (page_in j))

abbrev pub diff_response_in : List DocView → Side → ℕ → Text → ResponseView
diff_response_in docs from status body = read_as from RevsDiff status body (λ j. or_fault missing_response bad_diff (diff_in docs j))

abbrev pub carry_response_in : Side → ℕ → Text → ResponseView
carry_response_in from status body =
    if is_rejection status then rejected_response from status (words_in body)
    else read_as from Carry status body (λ j. or_fault row_errors_response (bad_answer Carry) (row_errors_in j))

abbrev pub put_response_in : Side → ℕ → Text → ResponseView
put_response_in from status body =
    if status == 409 then conflict_response
    else read_as from WriteLog status body (λ j. if is_stored j then stored_response else fault_response (bad_answer WriteLog))

-- The server that the response names, or the request's server if the response does not name a server.
abbrev pub side_or : Option Side → Side → Side
side_or None side = side
side_or (Some s) side = s

abbrev pub response_in : RequestView → ℕ → Option Side → Text → ResponseView
response_in (get_log side) status who body = log_response_in side (side_or who side) status body
response_in (get_changes since wait) status who body = page_response_in (side_or who Source) status body
response_in (revs_diff docs) status who body = diff_response_in docs (side_or who Target) status body
response_in (carry_docs docs) status who body = carry_response_in (side_or who Source) status body
response_in (put_log side log checkpoint) status who body = put_response_in (side_or who side) status body
response_in (tell notice) status who body = noted_response
response_in (done fault counts recorded) status who body = noted_response
