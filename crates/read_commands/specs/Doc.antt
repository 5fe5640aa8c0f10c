-- Defines the command `doc`, as specified in docs/PROFILE.md, "Command lines" and "Answers".
use Rattle.std.specs.Prelude.{ℕ, List, [], ◌∷◌, codes, Option, Some, None, Result, Ok}
use Rattle.std.specs.Option.{option_copied}
use Rattle.serde_json.specs.Data.{Data}
use Rattle.serde_json.specs.Find.{as_str}
use Rattle.rev_core.specs.Rev.{RevId}
use Rattle.rev_tree.specs.InOrder.{first_of}
use Rattle.rev_tree.specs.Tree.{TreeValue, leaves}
use Rattle.doc_json.specs.DocText.{doc_text}
use Rattle.couch_base.specs.Database.{tree_in}
use Rattle.couch_base.specs.Messages.{document_at}
use Rattle.script_engine.specs.Serving.{Answering}
use Rattle.script_databases.specs.Databases.{State}
use Rattle.script_databases.specs.declared.refusal.Refusal.{Refusal}
use Rattle.script_databases.specs.declared.refusal.Refusal.TheVariants as why
use Rattle.rev_core.specs.Checks.{◌>>=◌, or_refused}
use Rattle.command_api.specs.Checks.{needed}
use Rattle.command_api.specs.Given.{id_given, rev_given}
use Rattle.command_api.specs.Members.{name_at, text_at, optional, if_only}
use Rattle.command_api.specs.Telling.{database_of, Reads}
use Rattle.command_api.specs.Texts.{ended}
use Rattle.read_commands.specs.declared.doc.Doc.{Doc}

-- ---- its parameters

-- The parameters of `doc`, which prints a revision of a document, or the winner if no revision is named.
pub record DocAsk : Type 0 where
  pub db : List ℕ
  pub id : List ℕ
  pub rev : Option (List ℕ)

abbrev pub doc_asked : Doc → DocAsk
doc_asked ask = record { db = ask.db.now; id = ask.id.now; rev = option_copied ask.rev }

abbrev pub doc_in : Data → Result DocAsk Refusal
doc_in d = do
  db ← needed (name_at (codes "db") d)
  id ← needed (text_at (codes "id") d)
  rev ← needed (optional as_str (codes "rev") d)
  needed (if_only (codes "do" ∷ codes "db" ∷ codes "id" ∷ codes "rev" ∷ []) d (record { db = db; id = id; rev = rev }))

-- ---- its result

-- The revision that `doc` prints: the named revision, or the winner.
abbrev pub chosen : TreeValue → Option RevId → Option RevId
chosen tree None = first_of (leaves tree)
chosen tree (Some r) = Some r

abbrev pub doc_told : State → DocAsk → Result (List ℕ) Refusal
doc_told s ask = do
  l ← database_of s ask.db
  id ← id_given ask.id
  named ← rev_given ask.rev
  tree ← or_refused why.NoSuchDocument (tree_in l.db.docs id)
  rev ← or_refused why.NoSuchRevision (chosen tree named)
  document ← or_refused why.NoSuchRevision (document_at l.db id rev)
  Ok (ended (doc_text document))

abbrev pub PrintsDocument : Answering State DocAsk
PrintsDocument old ask told new = Reads (doc_told old ask) old told new
