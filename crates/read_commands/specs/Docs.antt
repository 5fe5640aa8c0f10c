-- Defines the command `docs`, as specified in docs/PROFILE.md, "Command lines" and "Answers".
use Rattle.std.specs.Prelude.{ℕ, List, [], ◌∷◌, ◌++◌, codes, unwrap_or, Option, Result, Ok, option_map, string_bytes}
use Rattle.std.specs.List.{flat_map}
use Rattle.serde_json.specs.Data.{Data}
use Rattle.json_values.specs.LineView.{line_items}
use Rattle.doc_json.specs.Chosen.{Choice}
use Rattle.doc_json.specs.Document.{Document}
use Rattle.doc_json.specs.DocText.{doc_text}
use Rattle.couch_base.specs.Database.{DatabaseValue}
use Rattle.couch_base.specs.Feed.{RowValue, chosen_feed}
use Rattle.repl_inspect.specs.Documents.{documents_at}
use Rattle.script_engine.specs.Serving.{Answering}
use Rattle.script_databases.specs.Databases.{State, peer_at}
use Rattle.script_databases.specs.declared.refusal.Refusal.{Refusal}
use Rattle.rev_core.specs.Checks.{◌>>=◌}
use Rattle.command_api.specs.Checks.{needed}
use Rattle.command_api.specs.Given.{choice_given}
use Rattle.command_api.specs.Members.{as_texts, as_whole, name_at, optional, texts_of, if_only}
use Rattle.command_api.specs.Telling.{database_of, Reads}
use Rattle.command_api.specs.Texts.{ended, last_line}
use Rattle.read_commands.specs.Walks.{left_in, rows_left}
use Rattle.read_commands.specs.declared.docs.Docs.{Docs}
use Rattle.read_commands.specs.declared.docs.DocsRest.{DocsRest}

-- ---- its parameters

-- The parameters of `docs`, which prints the documents that changed after a sequence, for a selection of documents.
pub record DocsAsk : Type 0 where
  pub db : List ℕ
  pub since : ℕ
  pub doc_ids : Option (List (List ℕ))

abbrev pub docs_asked : Docs → DocsAsk
docs_asked ask = record {
  db = ask.db.now;
  since = ask.since;
  doc_ids = option_map (λ v. texts_of (line_items v.now)) ask.doc_ids;
}

abbrev pub docs_in : Data → Result DocsAsk Refusal
docs_in d = do
  db ← needed (name_at (codes "db") d)
  since ← needed (optional as_whole (codes "since") d)
  doc_ids ← needed (optional as_texts (codes "doc_ids") d)
  needed (if_only (codes "do" ∷ codes "db" ∷ codes "since" ∷ codes "doc_ids" ∷ []) d
      (record { db = db; since = unwrap_or since 0; doc_ids = doc_ids }))

-- ---- its output

abbrev pub doc_line : Document → List ℕ
doc_line d = ended (doc_text d)

-- The lines that `docs` prints for the document of a feed row: one line for each leaf, the winner first.
abbrev pub leaf_lines : DatabaseValue → RowValue → List ℕ
leaf_lines db r = flat_map doc_line (documents_at db r.id)

abbrev pub docs_text : DatabaseValue → ℕ → Choice → List ℕ
docs_text db since chosen = flat_map (leaf_lines db) (chosen_feed chosen db since db.update_seq) ++ last_line db.update_seq

-- The output that `docs` has not yet printed: the lines for the remaining rows of the feed, and the update sequence.
abbrev pub docs_left : State → DocsRest → List ℕ
docs_left s r = left_in (peer_at s (string_bytes r.db)) (λ l. flat_map (leaf_lines l.db) (rows_left l.db r.walk) ++ last_line l.db.update_seq)

-- ---- its result

abbrev pub docs_told : State → DocsAsk → Result (List ℕ) Refusal
docs_told s ask = do
  l ← database_of s ask.db
  chosen ← choice_given ask.doc_ids
  Ok (docs_text l.db ask.since chosen)

abbrev pub PrintsDocuments : Answering State DocsAsk
PrintsDocuments old ask told new = Reads (docs_told old ask) old told new
