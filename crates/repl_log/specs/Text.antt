-- Defines the text form of replication ids and logs, as specified in docs/PROFILE.md, "Replication ids and logs".
use Rattle.std.specs.Prelude.{ℕ, ◌<◌, ◌^◌, Bool, true, List, [], ◌∷◌, ◌++◌, map, codes, Some, None, Result, Ok, Err, refl}
use Rattle.std.specs.Coded.{Coded, code_by, coded×, coded_ℕ, coded_list, coded_option}
use Rattle.std.specs.Int.{w128, to_be_bytes}
use Rattle.std.specs.List.{AllByRecursion}
use Rattle.hex.specs.Hex.{encode_lower}
use Rattle.serde_json.specs.Data.{Data, number, unsigned, string, array, object, Items, Members, no_members, member}
use Rattle.serde_json.specs.View.{items_of}
use Rattle.serde_json.specs.Written.{compact_text, comma_if}
use Rattle.doc_json.specs.Chosen.{Choice, IsText, ids_text}
use Rattle.repl_log.specs.declared.fault.LogFault.{LogFault}
use Rattle.repl_log.specs.declared.fault.LogFault.TheVariants as faults
use Rattle.repl_log.specs.declared.replication.RepId.{RepId}
use Rattle.repl_log.specs.Entry.{EntryValue}
use Rattle.repl_log.specs.Time.{time_text}

-- The 32 lower-case hexadecimal digits of a number below 2^128.
unfoldable pub id_digits : ℕ → List ℕ
id_digits n = encode_lower (to_be_bytes w128 n)

-- ---- replication ids

-- The text of a selection in a replication id, which is `-` and the lower-case hexadecimal digits of the JSON array of
-- the selected ids. If a replication selects all documents, the text of the selection is empty.
abbrev pub choice_digits : Choice → List ℕ
choice_digits None = []
choice_digits (Some ids) = 45 ∷ encode_lower (ids_text ids)

-- The ids of a selection are strings of bytes.
abbrev pub HasTexts : Choice → Type 0
HasTexts None = Unit {0}
HasTexts (Some ids) = AllByRecursion IsText ids

-- The UUIDs in a replication id are below 2^128, and the selected ids are strings of bytes.
pub record IsRepId (id : RepId) : Type 0 where
  pub source : id.source < 2 ^ 128
  pub target : id.target < 2 ^ 128
  pub chosen : HasTexts id.chosen

abbrev pub coded_choice : Coded Choice
coded_choice = coded_option (coded_list (coded_list coded_ℕ))

abbrev pub coded_rep : Coded RepId
coded_rep =
    code_by (ℕ × (ℕ × Choice)) (coded× coded_ℕ (coded× coded_ℕ coded_choice))
    (λ r. (r.source, (r.target, r.chosen))) (λ p. record { source = p.0; target = p.1.0; chosen = p.1.1 })
    (λ _. refl)

-- The text of a replication id: the source's UUID as digits, `-`, the target's UUID as digits, and the text of the
-- selection.
abbrev pub rep_text : RepId → List ℕ
rep_text id = id_digits id.source ++ 45 ∷ (id_digits id.target ++ choice_digits id.chosen)

-- ---- logs

-- The members of a JSON object, in the order of the given list.
abbrev pub members : List (List ℕ × Data) → Members
members [] = no_members
members (m ∷ ms) = member m.0 m.1 (members ms)

abbrev pub whole : ℕ → Data
whole n = number (unsigned n)

-- An entry of a log's history as a JSON object, given the strings of the session and of the two timestamps.
abbrev pub entry_with : EntryValue → List ℕ → List ℕ → List ℕ → Data
entry_with e session_id start_time end_time =
    object (members
    ((codes "doc_write_failures", whole e.counts.failures)
    ∷ (codes "docs_read", whole e.counts.read)
    ∷ (codes "docs_written", whole e.counts.written)
    ∷ (codes "end_last_seq", whole e.recorded)
    ∷ (codes "end_time", string end_time)
    ∷ (codes "missing_checked", whole e.counts.checked)
    ∷ (codes "missing_found", whole e.counts.found)
    ∷ (codes "recorded_seq", whole e.recorded)
    ∷ (codes "session_id", string session_id)
    ∷ (codes "start_last_seq", whole e.start)
    ∷ (codes "start_time", string start_time)
    ∷ []))

abbrev pub entry_json : EntryValue → Data
entry_json e = entry_with e (id_digits e.session.0) (time_text e.start_time) (time_text e.end_time)

-- The texts of log entries, separated by commas. If `later` is true, a comma also precedes the first text.
abbrev pub listed : Bool → List EntryValue → List ℕ
listed later [] = []
listed later (e ∷ es) = comma_if later ++ (compact_text (entry_json e) ++ listed true es)

-- A log as a JSON object, given four values: the text of the replication id, the history, and the session and recorded
-- sequence of the newest entry.
abbrev pub log_with : List ℕ → Items → List ℕ → ℕ → Data
log_with name history session_id recorded =
    object (members
    ((codes "_id", string (codes "_local/" ++ name))
    ∷ (codes "history", array history)
    ∷ (codes "replication_id_version", whole 3)
    ∷ (codes "session_id", string session_id)
    ∷ (codes "source_last_seq", whole recorded)
    ∷ []))

abbrev pub log_json : RepId → EntryValue → List EntryValue → Data
log_json id newest log =
    log_with (rep_text id) (items_of (map entry_json log)) (id_digits newest.session.0) newest.recorded

-- The text of a log, which is its JSON object in compact form, or `EmptyLog` for a log without entries.
abbrev pub log_text : RepId → List EntryValue → Result (List ℕ) LogFault
log_text id [] = Err faults.EmptyLog
log_text id (newest ∷ older) = Ok (compact_text (log_json id newest (newest ∷ older)))
