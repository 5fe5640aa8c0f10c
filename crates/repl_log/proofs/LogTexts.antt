-- The text of a log and of its entries, built piece by piece.
use Rattle.proof_prelude.proofs.{◌≡◌, ℕ, false, List, [], ◌∷◌, ◌++◌, codes, decimal, refl, ap, ◌∙◌, append_assoc}
use Rattle.json.specs.Print.{escape_byte, quoted}
use Rattle.serde_json.specs.Data.{Items}
use Rattle.serde_json.specs.Written.{compact_text, items_text}
use Rattle.repl_log.specs.{EntryValue, entry_with, log_with}

-- one more piece is written, and one fewer remains
pub moved : {all : List ℕ} (out piece left new : List ℕ) → out ++ (piece ++ left) ≡ all → new ≡ out ++ piece → new ++ left ≡ all
moved out piece left new whole pushed = ap (λ l. l ++ left) pushed ∙ append_assoc out piece left ∙ whole

pub entry_pieces : (e : EntryValue) (session start end : List ℕ) → compact_text (entry_with e session start end)
    ≡ (codes "{\"doc_write_failures\":" ++ decimal e.counts.failures)
    ++ ((codes ",\"docs_read\":" ++ decimal e.counts.read)
    ++ ((codes ",\"docs_written\":" ++ decimal e.counts.written)
    ++ ((codes ",\"end_last_seq\":" ++ decimal e.recorded)
    ++ ((codes ",\"end_time\":" ++ quoted end)
    ++ ((codes ",\"missing_checked\":" ++ decimal e.counts.checked)
    ++ ((codes ",\"missing_found\":" ++ decimal e.counts.found)
    ++ ((codes ",\"recorded_seq\":" ++ decimal e.recorded)
    ++ ((codes ",\"session_id\":" ++ quoted session)
    ++ ((codes ",\"start_last_seq\":" ++ decimal e.start)
    ++ ((codes ",\"start_time\":" ++ quoted start)
    ++ 125 ∷ []))))))))))
unfolding escape_byte
entry_pieces e session start end = refl

pub log_pieces : (name : List ℕ) (history : Items) (session : List ℕ) (recorded : ℕ) → compact_text (log_with name history session recorded)
    ≡ (codes "{\"_id\":" ++ quoted (codes "_local/" ++ name))
    ++ (codes ",\"history\":["
    ++ (items_text false history
    ++ ((codes ",\"replication_id_version\":" ++ decimal 3)
    ++ ((codes ",\"session_id\":" ++ quoted session)
    ++ ((codes ",\"source_last_seq\":" ++ decimal recorded)
    ++ 125 ∷ [])))))
unfolding escape_byte
log_pieces name history session recorded = refl
