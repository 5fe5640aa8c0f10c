-- Defines the text of a replication log, as specified in docs/PROFILE.md, "Logs of the relay".
use Rattle.std.specs.Prelude.{List, [], ◌∷◌, ◌++◌, length, Option, None, Some, Bool, not, ◌&&◌, nat_lt, if◌then◌else◌, codes, decimal, count_by, bytes_eq}
use Rattle.std.specs.List.{list_any}
use Rattle.hex.specs.Hex.{encode_lower}
use Rattle.md5.specs.Md5.{md5}
use Rattle.json.specs.Token.{Token, begin_object, end_object, begin_array, key, string, number}
use Rattle.json.specs.Print.{print}
use Rattle.relay_core.specs.declared.messages.Counts.{Counts}
use Rattle.relay_core.specs.Messages.{Text, EntryView, LogView, CheckpointView}

-- The path of the replication log. The path is the same at both servers. The path ends with the MD5 of six texts, which
-- are separated by line feeds.
abbrev pub log_path : Text → Text → Text → Text → Text → Text → Text
log_path source target filter query choice salt =
    codes "/_local/sandermauve-" ++ encode_lower (md5 (source ++ 10 ∷ (target ++ 10 ∷ (filter ++ 10 ∷ (query ++ 10 ∷ (choice ++ 10 ∷ salt))))))

abbrev pub counts_tokens : Counts → List Token
counts_tokens c =
    key (codes "missing_checked") ∷ number (decimal c.missing_checked)
    ∷ key (codes "missing_found") ∷ number (decimal c.missing_found)
    ∷ key (codes "docs_read") ∷ number (decimal c.docs_read)
    ∷ key (codes "docs_written") ∷ number (decimal c.docs_written)
    ∷ key (codes "doc_write_failures") ∷ number (decimal c.doc_write_failures) ∷ []

-- The members of a log that give a session id, a sequence, and the version of the log's format.
abbrev pub position_tokens : Text → Text → List Token
position_tokens session seq =
    key (codes "session_id") ∷ string session ∷ key (codes "source_last_seq") ∷ string seq
    ∷ key (codes "replication_id_version") ∷ number (decimal 4) ∷ []

-- ---- the history

-- An entry of a log's history, with the session id `session` and the checkpoint c.
abbrev pub entry_tokens : Text → CheckpointView → List Token
entry_tokens session c =
    begin_object ∷ key (codes "session_id") ∷ string session
    ∷ key (codes "start_time") ∷ string c.start_time ∷ key (codes "end_time") ∷ string c.end_time
    ∷ key (codes "start_last_seq") ∷ string c.start_last_seq
    ∷ key (codes "end_last_seq") ∷ string c.seq ∷ key (codes "recorded_seq") ∷ string c.seq
    ∷ (counts_tokens c.counts ++ end_object ∷ [])

-- A session, and a sequence that the session has recorded.
abbrev pub Recorded : Type 0
Recorded = Text × Text

abbrev pub recorded_of : EntryView → Recorded
recorded_of e = (e.session, e.seq)

abbrev pub is_of_session : Text → Recorded → Bool
is_of_session session r = bytes_eq r.0 session

abbrev pub is_recorded : Text → Text → Recorded → Bool
is_recorded session seq r = bytes_eq r.0 session && bytes_eq r.1 seq

-- Whether a log keeps the entry e of its history. The list `kept` has the entries that the log keeps and that are newer
-- than e. A history keeps at most 50 entries, and at most two entries of a session. The kept entries of one session
-- have different sequences.
abbrev pub may_keep : List Recorded → EntryView → Bool
may_keep kept e =
    nat_lt (length kept) 50 && nat_lt (count_by (is_of_session e.session) kept) 2 && not (list_any (is_recorded e.session e.seq) kept)

-- The entries of a log's history that are kept, newest first. The list `kept` has entries that the log keeps and that
-- are newer than the given history.
abbrev pub thinned : List Recorded → List EntryView → List EntryView
thinned kept [] = []
thinned kept (e ∷ es) = if may_keep kept e then e ∷ thinned (kept ++ recorded_of e ∷ []) es else thinned kept es

-- The JSON texts of the entries of a history, with a comma before each text.
abbrev pub older_text : List EntryView → Text
older_text [] = []
older_text (e ∷ es) = (44 ∷ e.json) ++ older_text es

-- ---- the log

abbrev pub rev_tokens : Option Text → List Token
rev_tokens None = []
rev_tokens (Some rev) = key (codes "_rev") ∷ string rev ∷ []

-- The text of a log before the first entry of the log's history.
abbrev pub head_tokens : Option Text → Text → Text → List Token
head_tokens rev session seq =
    begin_object ∷ (rev_tokens rev ++ position_tokens session seq ++ key (codes "history") ∷ begin_array ∷ [])

-- The text of a log that records checkpoint c. The text has a new entry, and then the kept entries of the log that the
-- server last returned (`log`).
abbrev pub log_text : Text → LogView → CheckpointView → Text
log_text session log c =
    print (head_tokens log.rev session c.seq) ++ print (entry_tokens session c)
    ++ older_text (thinned ((session, c.seq) ∷ []) log.history) ++ codes "]}"
