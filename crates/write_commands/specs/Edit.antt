-- Defines the command `edit`, as specified in docs/PROFILE.md, "Command lines", "Order of checks" and "Answers".
use Rattle.std.specs.Prelude.{ℕ, Bool, false, List, [], ◌∷◌, ◌++◌, codes, decimal, Option, Some, unwrap_or, option_map, Result, Ok}
use Rattle.std.specs.Option.{option_copied}
use Rattle.serde_json.specs.Data.{Data}
use Rattle.serde_json.specs.Find.{get, as_bool, as_str}
use Rattle.json_values.specs.LineView.{line_view}
use Rattle.rev_core.specs.Text.{rev_text}
use Rattle.repl_peer.specs.peer.Writing.{after_edit}
use Rattle.script_engine.specs.Serving.{Answering}
use Rattle.script_databases.specs.Databases.{State, with_peer, edited_answer}
use Rattle.script_databases.specs.declared.databases.Edited.{Edited}
use Rattle.script_databases.specs.declared.refusal.Refusal.{Refusal}
use Rattle.rev_core.specs.Checks.{◌>>=◌}
use Rattle.command_api.specs.Checks.{needed}
use Rattle.command_api.specs.Given.{id_given, rev_given, body_given_or_empty}
use Rattle.command_api.specs.Members.{name_at, text_at, optional, if_only}
use Rattle.command_api.specs.Telling.{database_of, Does, UnlessQuiet}
use Rattle.command_api.specs.Texts.{ended, quoted}
use Rattle.write_commands.specs.declared.edit.Edit.{Edit}

-- ---- its parameters

-- The parameters of `edit`: a database name, a document id, an optional parent, whether the edit deletes, and a body of
-- any type.
pub record EditAsk : Type 0 where
  pub db : List ℕ
  pub id : List ℕ
  pub parent : Option (List ℕ)
  pub deleted : Bool
  pub body : Option Data

abbrev pub edit_asked : Edit → EditAsk
edit_asked ask =
    record {
      db = ask.db.now;
      id = ask.id.now;
      parent = option_copied ask.parent;
      deleted = ask.deleted;
      body = option_map line_view ask.body;
    }

abbrev pub edit_in : Data → Result EditAsk Refusal
edit_in d = do
  db ← needed (name_at (codes "db") d)
  id ← needed (text_at (codes "id") d)
  parent ← needed (optional as_str (codes "parent") d)
  deleted ← needed (optional as_bool (codes "deleted") d)
  needed (if_only (codes "do" ∷ codes "db" ∷ codes "id" ∷ codes "parent" ∷ codes "deleted" ∷ codes "body" ∷ []) d
      (record { db = db; id = id; parent = parent; deleted = unwrap_or deleted false; body = get (codes "body") d }))

-- ---- its output

abbrev pub edited_line : List ℕ → List ℕ → Edited → List ℕ
edited_line db id e =
    ended (codes "edited " ++ db ++ codes " " ++ quoted id ++ codes " " ++ rev_text e.rev ++ codes " seq "
    ++ decimal e.seq)

-- ---- its result

-- The result of `edit`, and the state after the edit. The id of an `edit` line is parsed first, then the parent, then
-- the body.
abbrev pub edit_done : State → EditAsk → Result (List ℕ × State) Refusal
edit_done s ask = do
  l ← database_of s ask.db
  id ← id_given ask.id
  parent ← rev_given ask.parent
  body ← body_given_or_empty ask.body
  edited ← edited_answer (Some l) id parent ask.deleted body
  Ok (edited_line ask.db id edited, with_peer s ask.db (after_edit l id parent ask.deleted body))

abbrev pub EditsLoud : Answering State EditAsk
EditsLoud old ask told new = Does (edit_done old ask) old told new

abbrev pub Edits : Answering State EditAsk
Edits old ask told new = UnlessQuiet EditsLoud old ask told new
