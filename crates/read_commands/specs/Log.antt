-- Defines the command `log`, as specified in docs/PROFILE.md, "Command lines" and "Answers".
use Rattle.std.specs.Prelude.{ℕ, List, [], ◌∷◌, codes, if◌then◌else◌, Option, Some, None, Result, Ok, option_and_then, option_map}
use Rattle.std.specs.Str.{bytes_eq}
use Rattle.serde_json.specs.Data.{Data}
use Rattle.json_values.specs.LineView.{line_items}
use Rattle.doc_json.specs.Chosen.{Choice}
use Rattle.repl_log.specs.Entry.{EntryValue}
use Rattle.repl_log.specs.Text.{log_text}
use Rattle.repl_peer.specs.peer.Peer.{PeerValue}
use Rattle.repl_peer.specs.logs.Logs.{source_log, target_log}
use Rattle.repl_peer.specs.logs.Checkpoint.{rep_between}
use Rattle.script_engine.specs.Serving.{Answering}
use Rattle.script_databases.specs.Databases.{State}
use Rattle.script_databases.specs.Refusals.{told_as, log_refusal}
use Rattle.script_databases.specs.declared.refusal.Refusal.{Refusal}
use Rattle.rev_core.specs.Checks.{◌>>=◌}
use Rattle.command_api.specs.Checks.{needed}
use Rattle.command_api.specs.Given.{choice_given}
use Rattle.command_api.specs.Members.{as_texts, name_at, optional, text_at, texts_of, if_only}
use Rattle.command_api.specs.Telling.{database_of, Reads}
use Rattle.command_api.specs.Texts.{ended}
use Rattle.read_commands.specs.declared.log.Log.{Log}
use Rattle.read_commands.specs.declared.log.Side.{Side}
use Rattle.read_commands.specs.declared.log.Side.TheVariants.{Source, Target}

-- ---- its parameters

-- The parameters of `log`, which prints the log that one side has of a replication. The parameters may include the
-- replication's selection of documents.
pub record LogAsk : Type 0 where
  pub source : List ℕ
  pub target : List ℕ
  pub side : Side
  pub doc_ids : Option (List (List ℕ))

abbrev pub log_asked : Log → LogAsk
log_asked ask = record {
  source = ask.source.now;
  target = ask.target.now;
  side = ask.side;
  doc_ids = option_map (λ v. texts_of (line_items v.now)) ask.doc_ids;
}

abbrev pub side_of : List ℕ → Option Side
side_of text =
    if bytes_eq text (codes "source") then Some Source
    else (if bytes_eq text (codes "target") then Some Target else None)

abbrev pub side_at : Data → Option Side
side_at d = option_and_then side_of (text_at (codes "side") d)

abbrev pub log_in : Data → Result LogAsk Refusal
log_in d = do
  source ← needed (name_at (codes "source") d)
  target ← needed (name_at (codes "target") d)
  side ← needed (side_at d)
  doc_ids ← needed (optional as_texts (codes "doc_ids") d)
  needed (if_only (codes "do" ∷ codes "source" ∷ codes "target" ∷ codes "side" ∷ codes "doc_ids" ∷ []) d
      (record { source = source; target = target; side = side; doc_ids = doc_ids }))

-- ---- its result

-- The log of a replication at its source or its target.
abbrev pub log_held : Side → PeerValue → PeerValue → Choice → List EntryValue
log_held Source source target chosen = source_log source (rep_between source target chosen)
log_held Target source target chosen = target_log target (rep_between source target chosen)

abbrev pub log_told : State → LogAsk → Result (List ℕ) Refusal
log_told s ask = do
  source ← database_of s ask.source
  target ← database_of s ask.target
  chosen ← choice_given ask.doc_ids
  text ← told_as log_refusal (log_text (rep_between source target chosen) (log_held ask.side source target chosen))
  Ok (ended text)

abbrev pub Logs : Answering State LogAsk
Logs old ask told new = Reads (log_told old ask) old told new
