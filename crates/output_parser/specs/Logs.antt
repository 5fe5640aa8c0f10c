-- Defines the lines that are logs, as specified in docs/PROFILE.md, "Replication ids and logs".
use Rattle.std.specs.Prelude.{◌≡◌, ℕ, List, [], ◌∷◌, ◌++◌, true, codes, get_or, map, string_bytes}
use Rattle.std.specs.Str.{IsUtf8}
use Rattle.std.specs.Borrow.{Bor}
use Rattle.output_parser.specs.Words.{lacks, InTurn, IsNumber}
use Rattle.output_parser.specs.declared.told.Entry.{Entry}
use Rattle.output_parser.specs.declared.told.Member.{Member}
use Rattle.output_parser.specs.declared.told.Member.TheVariants as members

-- In a log, the text of a session's member up to the member's value, for example `"docs_read":`. The byte after a
-- member's value is the closing quotation mark if the value is a string, and otherwise a comma.
abbrev pub member_text : Member → List ℕ
member_text members.Failed = codes "{\"doc_write_failures\":"
member_text members.Read = codes "\"docs_read\":"
member_text members.Written = codes "\"docs_written\":"
member_text members.End = codes "\"end_last_seq\":"
member_text members.EndTime = codes "\"end_time\":\""
member_text members.Checked = codes ",\"missing_checked\":"
member_text members.Found = codes "\"missing_found\":"
member_text members.Recorded = codes "\"recorded_seq\":"
member_text members.Session = codes "\"session_id\":\""
member_text members.Start = codes ",\"start_last_seq\":"
member_text members.StartTime = codes "\"start_time\":\""

abbrev pub member_end : Member → ℕ
member_end members.EndTime = 34
member_end members.Session = 34
member_end members.StartTime = 34
member_end member = 44

-- The members of a log's session, in order.
abbrev pub all_members : List Member
all_members =
    members.Failed ∷ members.Read ∷ members.Written ∷ members.End ∷ members.EndTime ∷ members.Checked ∷ members.Found
    ∷ members.Recorded ∷ members.Session ∷ members.Start ∷ members.StartTime ∷ []

-- The text is a session's member with the given value, followed by the text `after`.
pub record IsMember (member : Member) (value after text : List ℕ) : Type 0 where
  pub form : text ≡ member_text member ++ (value ++ member_end member ∷ after)
  pub lacks_end : lacks (member_end member) value ≡ true

-- A session in a log, with the session's id, start time and document counts.
pub record Logged : Type 0 where
  pub session : List ℕ
  pub begun : List ℕ
  pub read : ℕ
  pub written : ℕ
  pub failed : ℕ

abbrev pub logged : Entry → Logged
logged e = record { session = string_bytes e.session; begun = string_bytes e.begun; read = e.read; written = e.written; failed = e.failed }

abbrev pub texts_of : List (Bor (List ℕ)) → List (List ℕ)
texts_of values = map (λ (v : Bor (List ℕ)). v.now) values

-- The values of the members of a log entry describe the session e.
pub record Values (values : List (List ℕ)) (e : Logged) : Type 0 where
  pub failed : IsNumber (get_or values 0 []) e.failed
  pub read : IsNumber (get_or values 1 []) e.read
  pub written : IsNumber (get_or values 2 []) e.written
  pub session : get_or values 8 [] ≡ e.session
  pub begun : get_or values 10 [] ≡ e.begun
  pub session_utf8 : IsUtf8 e.session
  pub begun_utf8 : IsUtf8 e.begun

-- The text is the session e of a log, including the session's closing brace, followed by the text `after`.
pub record IsEntry (e : Logged) (after text : List ℕ) : Type 0 where
  pub values : List (List ℕ)
  pub listed : InTurn IsMember all_members values (125 ∷ after) text
  pub tells : Values values e

-- The text begins with a comma and a further session e, and `after` is the text that follows the session.
pub record IsFurther (e : Logged) (after text : List ℕ) : Type 0 where
  pub begins : List ℕ
  pub comma : text ≡ 44 ∷ begins
  pub entry : IsEntry e after begins

abbrev pub AreFurther : List Logged → List ℕ → List ℕ → Type 0
AreFurther [] rest text = text ≡ rest
AreFurther (e ∷ es) rest text = (after : List ℕ) × IsFurther e after text × AreFurther es rest after

-- The text begins with at least one session, and `rest` is the text after the sessions.
abbrev pub AreEntries : List Logged → List ℕ → List ℕ → Type 0
AreEntries [] rest text = ⊥
AreEntries (e ∷ es) rest text = (after : List ℕ) × IsEntry e after text × AreFurther es rest after

-- The text begins with the given sessions of a log. After the sessions come the closing bracket of their list, and the
-- log's next members up to the value of `session_id`.
pub record IsHistory (text : List ℕ) (entries : List Logged) : Type 0 where
  pub tail : List ℕ
  pub listed : AreEntries entries (codes "],\"replication_id_version\":3,\"session_id\":\"" ++ tail) text

-- The line begins as a log of the replication `id`, and `text` follows the opening bracket of the log's list of
-- sessions.
pub record IsHead (line id text : List ℕ) : Type 0 where
  pub form : line ≡ codes "{\"_id\":\"_local/" ++ (id ++ 34 ∷ (codes ",\"history\":[" ++ text))
  pub lacks_mark : lacks 34 id ≡ true
  pub utf8 : IsUtf8 id

-- A line that begins as a log, `{"_id":"_local/ID","history":[SESSION,..],"replication_id_version":3,"session_id":"`.
pub record IsLog (line id : List ℕ) (entries : List Logged) : Type 0 where
  pub text : List ℕ
  pub head : IsHead line id text
  pub history : IsHistory text entries
