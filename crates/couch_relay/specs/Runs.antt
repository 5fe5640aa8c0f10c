-- Defines a run of the program `couch_relay`: the bytes that the program reads and writes, and the exit status.
use Rattle.std.specs.Prelude.{◌≡◌, ◌==◌, ◌||◌, ◌⊎◌, ℕ, true, false, if◌then◌else◌, List, [], ◌∷◌, ◌++◌, Option, None, Some, map, string_bytes, Result, Ok, Err, MatchOption}
use Rattle.std.specs.Io.KnownBytes.{Appends}
use Rattle.std.specs.Str.{IsUtf8, trim}
use Rattle.relay_core.specs.Messages.{Text, Exchange, RequestView, get_log, get_changes, revs_diff, carry_docs, put_log, tell, done, ResponseView}
use Rattle.relay_core.specs.Views.{response_view}
use Rattle.relay_core.specs.Justified.{MayAsk, IsJustified}
use Rattle.relay_requests.specs.Logs.{log_path}
use Rattle.relay_requests.specs.Requests.{request_text}
use Rattle.relay_requests.specs.declared.options.RequestOptions.{RequestOptions}
use Rattle.relay_responses.specs.Responses.{response_in}
use Rattle.script_engine.specs.declared.fault.ScriptFault.{ScriptFault}
use Rattle.couch_relay.specs.declared.exchange.Dated.{Dated}
use Rattle.couch_relay.specs.declared.options.Options.{Options}
use Rattle.couch_relay.specs.declared.run.Ended.{Ended}
use Rattle.couch_relay.specs.declared.run.Ended.TheVariants as end
use Rattle.couch_relay.specs.Faults.{RunCounts}
use Rattle.couch_relay.specs.Frames.{HeadView, IsFrame, NoFrame}
use Rattle.couch_relay.specs.Options.{Says, Refuses}

-- ---- an exchange

-- The bytes `bytes` are the head and the body of a response to request q. The response's head and body represent the
-- value `response`, and the head has the date `date`.
pub record IsResponse (q : RequestView) (bytes : List ℕ) (response : ResponseView) (date : Text) : Type 0 where
  pub head : HeadView
  pub body : List ℕ
  pub frame : IsFrame bytes head body
  pub response_is : response ≡ response_in q head.status head.who body
  pub date_is : date ≡ head.date

-- The bytes `bytes` begin with the response d to request q, and `rest` has the bytes after the response.
abbrev pub BeginsWithResponse : RequestView → List ℕ → List ℕ → Dated → Type 0
BeginsWithResponse q bytes rest d =
    (frame : List ℕ) × (bytes ≡ frame ++ rest) × IsResponse q frame (response_view d.response) (string_bytes d.date)

-- The result of receiving the response to request q. The call reads bytes, and appends them to the inbox's pending
-- bytes (the bytes not yet used). If the call returns a response, the pending bytes began with this response, and the
-- bytes after the response remain pending. If the call returns no response, the pending bytes did not begin with a
-- complete response.
abbrev pub Receives : RequestView → Option (List ℕ) → Option (List ℕ) → Type 0 → List ℕ → List ℕ → Option Dated → Type 0
Receives q old new ended before after dated =
    (bytes : List ℕ) × Appends old new bytes
    × MatchOption dated (NoFrame ended (before ++ bytes)) (λ d. BeginsWithResponse q (before ++ bytes) after d)

-- The exchange e (a request and its response) is the next exchange of a run. The relation `earlier` is true for the
-- bytes that the run read and wrote in all earlier exchanges. The run wrote the request of exchange e after all earlier
-- requests, and read the response of e after all earlier responses.
pub record IsNext (o : RequestOptions) (e : Exchange) (earlier : List ℕ → List ℕ → Type 0) (read written : List ℕ) : Type 0 where
  pub read_before : List ℕ
  pub written_before : List ℕ
  pub before : earlier read_before written_before
  pub frame : List ℕ
  pub date : Text
  pub is : IsResponse e.request frame e.response date
  pub read_is : read ≡ read_before ++ frame
  pub written_is : written ≡ written_before ++ request_text o e.request

-- In a list of exchanges, the bytes `read` are the responses, and the bytes `written` are the requests. A list of
-- exchanges begins with the newest exchange.
abbrev pub Exchanged : RequestOptions → List Exchange → List ℕ → List ℕ → Type 0
Exchanged o [] read written = (read ≡ []) × (written ≡ [])
Exchanged o (e ∷ h) read written = IsNext o e (Exchanged o h) read written

-- In its exchanges (requests and responses), a run has read the bytes `read` and written the bytes `written`. The rule
-- `MayAsk` allows `next` as the run's next request, and allowed each earlier request of the run when it was sent.
pub record IsRun (o : RequestOptions) (read written : List ℕ) (next : RequestView) : Type 0 where
  pub history : List Exchange
  pub exchanged : Exchanged o history read written
  pub justified : IsJustified history
  pub allowed : MayAsk history next

-- ---- end of a run

-- The exit status of a run that ends after the given request, or `None` if the request does not end a run.
abbrev pub status_after : RequestView → Option ℕ
status_after (get_log side) = None
status_after (get_changes since wait) = None
status_after (revs_diff docs) = None
status_after (carry_docs docs) = None
status_after (put_log side log checkpoint) = None
status_after (tell notice) = None
status_after (done None counts recorded) = Some (if counts.doc_write_failures == 0 then 0 else 1)
status_after (done (Some fault) counts recorded) = Some 3

-- A run of `couch_relay` has ended with the exit status `status`. If the last request that `couch_relay` wrote was
-- `done`, the exit status is the result of `status_after` for this request. If the last request was not `done`, the
-- exit status is 3, and the input bytes `left` do not begin with a complete response to the last request.
abbrev pub EndsWith : Type 0 → RequestView → List ℕ → ℕ → Type 0
EndsWith ended next left status =
    (status_after next ≡ Some status) ⊎ ((status_after next ≡ None) × NoFrame ended left × (status ≡ 3))

-- A complete run of `couch_relay`: the run's input, output and exit status.
pub record Ran (o : RequestOptions) (ended : Type 0) (input text : List ℕ) (status : ℕ) : Type 0 where
  pub read : List ℕ
  pub left : List ℕ
  pub written : List ℕ
  pub next : RequestView
  pub run : IsRun o read written next
  pub input_is : input ≡ read ++ left
  pub text_is : text ≡ written ++ request_text o next
  pub ends : EndsWith ended next left status

-- A run of `couch_relay` that a fault stopped. The output has the requests of the complete exchanges, and a prefix of
-- one more request.
pub record RanUntil (o : RequestOptions) (input text : List ℕ) : Type 0 where
  pub read : List ℕ
  pub left : List ℕ
  pub written : List ℕ
  pub next : RequestView
  pub front : List ℕ
  pub back : List ℕ
  pub run : IsRun o read written next
  pub input_is : input ≡ read ++ left
  pub text_is : text ≡ written ++ front
  pub request_is : request_text o next ≡ front ++ back

-- ---- command line and selection

-- The request options o have the values of the command line, and have the selection `choice`.
pub record AreOptions (options : Options) (choice : Text) (o : RequestOptions) : Type 0 where
  pub path : string_bytes o.log_path
      ≡ log_path options.source.now options.target.now options.filter.now options.query.now choice options.salt.now
  pub session_id : string_bytes o.session_id ≡ options.session_id.now
  pub batch : o.batch ≡ options.batch
  pub filter : string_bytes o.filter ≡ options.filter.now
  pub query : string_bytes o.query ≡ options.query.now
  pub choice_is : string_bytes o.choice ≡ choice

-- The byte that replaces byte b when a text is put on one line: a space if b is a line feed or a carriage return,
-- otherwise b itself.
abbrev pub on_line : ℕ → ℕ
on_line b = if b == 10 || b == 13 then 32 else b

-- The given text on one line, with spaces instead of line ends, and without white space at the beginning and the end.
abbrev pub on_one_line : Text → Text
on_one_line text = map on_line (trim text)

-- The bytes `input` are a response with the selection `choice` of documents, followed by the bytes `rest`.
pub record IsChoice (input : List ℕ) (choice : Text) (rest : List ℕ) : Type 0 where
  pub frame : List ℕ
  pub head : HeadView
  pub body : List ℕ
  pub input_is : input ≡ frame ++ rest
  pub frame_is : IsFrame frame head body
  pub text : IsUtf8 body
  pub choice_is : choice ≡ on_one_line body

-- The bytes `input` do not begin with a selection of documents. Either `input` does not begin with a complete response,
-- or it begins with a response whose body is not UTF-8.
abbrev pub NoChoice : Type 0 → List ℕ → Type 0
NoChoice ended input =
    NoFrame ended input
    ⊎ ((frame body rest : List ℕ) × (head : HeadView) × (input ≡ frame ++ rest) × IsFrame frame head body × ¬ IsUtf8 body)

-- The result of reading a response that has a selection of documents. The call reads bytes, and appends them to the
-- inbox's pending bytes (the bytes not yet used). If the call returns a selection of documents, the pending bytes began
-- with a response that has this selection. The bytes after this response remain pending. If the call returns no
-- selection of documents, the inbox's pending bytes did not begin with a response that has a selection.
abbrev pub ReadsChoice : Option (List ℕ) → Option (List ℕ) → Type 0 → List ℕ → List ℕ → Option Text → Type 0
ReadsChoice old new ended before after choice =
    (bytes : List ℕ) × Appends old new bytes
    × MatchOption choice (NoChoice ended (before ++ bytes)) (λ text. IsChoice (before ++ bytes) text after)

-- If the options require a selection, the input begins with the selection `choice`, and `rest` has the bytes after the
-- selection. If the options require no selection, `choice` is empty, and `rest` is the input.
abbrev pub TakesChoice : Options → List ℕ → Text → List ℕ → Type 0
TakesChoice options input choice rest =
    (options.choice ≡ true → IsChoice input choice rest) × (options.choice ≡ false → (choice ≡ []) × (rest ≡ input))

-- The result of reading a selection of documents, if the options require one. The call reads bytes, and appends them to
-- the inbox's pending bytes (the bytes not yet used). A returned text is the selection at the beginning of the pending
-- bytes, or the empty text if the options require no selection. If the call returns no text, the options require a
-- selection, and the pending bytes did not begin with a selection.
abbrev pub FindsChoice : Options → Option (List ℕ) → Option (List ℕ) → Type 0 → List ℕ → List ℕ → Option Text → Type 0
FindsChoice options old new ended before after choice =
    (bytes : List ℕ) × Appends old new bytes
    × MatchOption choice ((options.choice ≡ true) × NoChoice ended (before ++ bytes))
    (λ text. TakesChoice options (before ++ bytes) text after)

-- The input, the output and the exit status of a run with the given options. If the options require a selection and the
-- input does not begin with a selection, the output is empty, and the exit status is 3. The statement `ended` says that
-- the input has ended.
abbrev pub Runs : Options → Type 0 → List ℕ → List ℕ → ℕ → Type 0
Runs options ended input text status =
    ((choice rest : List ℕ) × (o : RequestOptions) × TakesChoice options input choice rest × AreOptions options choice o
    × Ran o ended rest text status)
    ⊎ ((options.choice ≡ true) × NoChoice ended input × (text ≡ []) × (status ≡ 3))

-- The input and the output of a run that a fault stopped. The output is empty, or has the requests of the complete
-- exchanges and a prefix of one more request.
abbrev pub RunsUntil : Options → List ℕ → List ℕ → Type 0
RunsUntil options input text =
    (text ≡ [])
    ⊎ ((choice rest : List ℕ) × (o : RequestOptions) × TakesChoice options input choice rest × AreOptions options choice o
    × RanUntil o rest text)

-- ---- the program

-- The input and the output of a run with the given options. The result of the run is an exit status, or the fault that
-- stopped the run.
abbrev pub RunsOptions : Options → Type 0 → List ℕ → List ℕ → Result ℕ ScriptFault → Type 0
RunsOptions options ended input text (Ok status) = Runs options ended input text status
RunsOptions options ended input text (Err fault) = RunsUntil options input text

-- The input and the output of the program, given the program's arguments. The first argument is the program's name. If
-- the arguments give no options, the program reads and writes nothing.
abbrev pub RunsWords : List Text → Type 0 → List ℕ → List ℕ → Ended → Type 0
RunsWords words ended input text (end.NotRun why) = (input ≡ []) × (text ≡ []) × Refuses words why
RunsWords words ended input text (end.Ran ran) =
    (options : Options) × Says words options × RunsOptions options ended input text ran

-- How the program changed the failure counts of its reader and writer. The arguments are those of `RunCounts`. If the
-- arguments give no options, both counts are unchanged.
abbrev pub EndedCounts : Ended → ℕ → ℕ → ℕ → ℕ → ℕ → ℕ → Type 0
EndedCounts (end.NotRun why) reads reader reader' writer writer' size = (reader' ≡ reader) × (writer' ≡ writer)
EndedCounts (end.Ran ran) reads reader reader' writer writer' size = RunCounts ran reads reader reader' writer writer' size

-- If the program made a run, and the run ended with an exit status, the statement p is true.
abbrev pub IfRan : Ended → Type 0 → Type 0
IfRan (end.NotRun why) p = Unit {0}
IfRan (end.Ran (Ok status)) p = p
IfRan (end.Ran (Err fault)) p = Unit {0}
