-- Defines, for contracts, the messages between the relay and the two servers. A text in a message is a list of bytes.
use Rattle.std.specs.Prelude.{ℕ, Bool, List, Option}
use Rattle.relay_core.specs.declared.messages.Side.{Side}
use Rattle.relay_core.specs.declared.messages.Operation.{Operation}
use Rattle.relay_core.specs.declared.messages.Counts.{Counts}

abbrev pub Text : Type 0
Text = List ℕ

-- The id of a document, and leaf revisions of that document.
abbrev pub DocView : Type 0
DocView = Text × List Text

pub record PageView : Type 0 where
  pub rows : List DocView
  pub last_seq : Text
  pub is_last : Bool
  pub pending : Option Text

pub record RowErrorView : Type 0 where
  pub id : Text
  pub rev : Option Text
  pub error : Text
  pub reason : Text

pub record EntryView : Type 0 where
  pub session : Text
  pub seq : Text
  pub json : Text

pub record LogView : Type 0 where
  pub rev : Option Text
  pub history : List EntryView

pub data FaultView : Type 0 where
  unanswered : Side → Operation → FaultView
  bad_status : Side → Operation → ℕ → Text → FaultView
  not_json : Operation → FaultView
  bad_feed : FaultView
  bad_diff : FaultView
  bad_answer : Operation → FaultView
  bad_log : Side → FaultView
  refused : Text → Side → ℕ → Text → FaultView
  -- The fault of a run whose target lacks leaves that the target has not refused: the id and revision of the first such
  -- leaf, and the number of such leaves. The optional pair in the fault `unaccounted` is the error and the reason of a
  -- response row. The error and the reason are from the first response row that is about the leaf's document and has an
  -- error other than `forbidden` and `unauthorized`.
  unaccounted : Text → Text → Option (Text × Text) → ℕ → FaultView
  log_changed : FaultView

pub record CheckpointView : Type 0 where
  pub start_time : Text
  pub end_time : Text
  pub start_last_seq : Text
  pub seq : Text
  pub counts : Counts

pub data NoticeView : Type 0 where
  -- The notice of a leaf that the target refused: an id, a revision, an error and a reason.
  leaf_refused : Text → Text → Text → Text → NoticeView
  restarted : NoticeView
  progress : Counts → Option Text → NoticeView

pub data RequestView : Type 0 where
  get_log : Side → RequestView
  -- The request for the changes after a sequence. The request is a longpoll request if it has a timeout.
  get_changes : Text → Option ℕ → RequestView
  revs_diff : List DocView → RequestView
  carry_docs : List DocView → RequestView
  -- The request to write a log: the log as the server last returned it, and the new entry before the log's history.
  put_log : Side → LogView → CheckpointView → RequestView
  tell : NoticeView → RequestView
  done : Option FaultView → Counts → Text → RequestView

pub data ResponseView : Type 0 where
  log_response : LogView → ResponseView
  page_response : PageView → ResponseView
  missing_response : List DocView → ResponseView
  row_errors_response : List RowErrorView → ResponseView
  rejected_response : Side → ℕ → Text → ResponseView
  stored_response : ResponseView
  conflict_response : ResponseView
  noted_response : ResponseView
  fault_response : FaultView → ResponseView

-- An exchange: a request, and the response to the request.
pub record Exchange : Type 0 where
  pub request : RequestView
  pub response : ResponseView

abbrev pub exchange_of : RequestView → ResponseView → Exchange
exchange_of q r = record { request = q; response = r }
