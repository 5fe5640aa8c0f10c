-- Defines the notices of a run, and the report at the run's end, as specified in docs/PROFILE.md, "Counts of the
-- relay".
use Rattle.std.specs.Prelude.{List, [], ◌∷◌, ◌++◌, Option, None, Some, Bool, true, false, ◌==◌, if◌then◌else◌, codes, decimal}
use Rattle.json.specs.Token.{Token, begin_object, end_object, key, string, boolean}
use Rattle.json.specs.Print.{escape}
use Rattle.relay_core.specs.declared.messages.Counts.{Counts}
use Rattle.relay_core.specs.Messages.{Text, FaultView, NoticeView, leaf_refused, restarted, progress}
use Rattle.relay_requests.specs.Words.{quoted, fault_name, fault_text}
use Rattle.relay_requests.specs.Logs.{counts_tokens, position_tokens}

abbrev pub notice_kind : NoticeView → Text
notice_kind (leaf_refused id rev error reason) = codes "refused"
notice_kind restarted = codes "again"
notice_kind (progress counts pending) = codes "progress"

abbrev pub pending_text : Option Text → Text
pending_text None = []
pending_text (Some pending) = codes ", " ++ pending ++ codes " documents to come"

abbrev pub notice_text : NoticeView → Text
notice_text (leaf_refused id rev error reason) = codes "refused " ++ quoted id ++ codes " " ++ rev ++ codes " " ++ error ++ codes " " ++ quoted reason
notice_text restarted = codes "the replication logs have changed; starting again from their newest common checkpoint"
notice_text (progress c pending) = decimal c.missing_checked ++ codes " leaves seen, " ++ decimal c.docs_written ++ codes " written, " ++ decimal c.doc_write_failures ++ codes " refused" ++ pending_text pending

-- ---- end of a run

abbrev pub exit_status : Option FaultView → Counts → Text
exit_status None c = if c.doc_write_failures == 0 then codes "0" else codes "1"
exit_status (Some f) c = codes "3"

abbrev pub ok_tokens : Option FaultView → List Token
ok_tokens None = key (codes "ok") ∷ boolean true ∷ []
ok_tokens (Some f) = key (codes "ok") ∷ boolean false ∷ key (codes "error") ∷ string (fault_name f) ∷ key (codes "reason") ∷ string (fault_text f) ∷ []

-- The last notice of a run: whether the run succeeded, the last sequence that both servers recorded, and the counts.
abbrev pub done_tokens : Text → Option FaultView → Counts → Text → List Token
done_tokens session fault c recorded =
    begin_object ∷ (ok_tokens fault ++ position_tokens session recorded ++ counts_tokens c ++ end_object ∷ [])
