-- Defines the command `show`, as specified in docs/PROFILE.md, "Command lines" and "Answers".
use Rattle.std.specs.Prelude.{ℕ, Bool, List, [], ◌∷◌, ◌++◌, length, if◌then◌else◌, codes, decimal, Result, Ok}
use Rattle.std.specs.List.{flat_map}
use Rattle.std.specs.FinMap as finmap
use Rattle.serde_json.specs.Data.{Data}
use Rattle.rev_core.specs.Rev.{RevId}
use Rattle.rev_core.specs.Text.{rev_text}
use Rattle.rev_tree.specs.InOrder.{first_of}
use Rattle.rev_tree.specs.Tree.{TreeValue, leaves, ancestors, is_deleted}
use Rattle.couch_base.specs.Database.{tree_in}
use Rattle.script_engine.specs.Serving.{Answering}
use Rattle.script_databases.specs.Databases.{State}
use Rattle.script_databases.specs.declared.refusal.Refusal.{Refusal}
use Rattle.script_databases.specs.declared.refusal.Refusal.TheVariants as why
use Rattle.rev_core.specs.Checks.{◌>>=◌, or_refused}
use Rattle.command_api.specs.Checks.{needed}
use Rattle.command_api.specs.Given.{id_given}
use Rattle.command_api.specs.Members.{name_at, text_at, if_only}
use Rattle.command_api.specs.Telling.{database_of, Reads}
use Rattle.command_api.specs.Texts.{ended, quoted, text_of_any, texts_of_revs}
use Rattle.read_commands.specs.declared.show.Show.{Show}

-- ---- its parameters

-- The parameters of `show`, which prints the leaves of a document.
pub record ShowAsk : Type 0 where
  pub db : List ℕ
  pub id : List ℕ

abbrev pub show_asked : Show → ShowAsk
show_asked ask = record { db = ask.db.now; id = ask.id.now }

abbrev pub show_in : Data → Result ShowAsk Refusal
show_in d = do
  db ← needed (name_at (codes "db") d)
  id ← needed (text_at (codes "id") d)
  needed (if_only (codes "do" ∷ codes "db" ∷ codes "id" ∷ []) d (record { db = db; id = id }))

-- ---- its output

abbrev pub head_line : List ℕ → TreeValue → List ℕ
head_line id tree =
    ended (codes "doc " ++ quoted id ++ codes " winner " ++ text_of_any (first_of (leaves tree)) ++ codes " leaves "
    ++ decimal (length (leaves tree)) ++ codes " revs " ++ decimal (finmap.len tree.origins))

-- The line that `show` prints for a leaf. The line says whether the leaf is deleted, and has the leaf's known ancestry.
abbrev pub leaf_text : RevId → Bool → List RevId → List ℕ
leaf_text leaf deleted ancestry =
    ended (codes "leaf " ++ rev_text leaf ++ (if deleted then codes " deleted " else codes " live ") ++ texts_of_revs ancestry)

abbrev pub leaf_line : TreeValue → RevId → List ℕ
leaf_line tree leaf = leaf_text leaf (is_deleted tree leaf) (ancestors tree leaf)

-- The output of `show`: the document, and its leaves in order, the winner first.
abbrev pub show_text : List ℕ → TreeValue → List ℕ
show_text id tree = head_line id tree ++ flat_map (leaf_line tree) (leaves tree)

-- ---- its result

abbrev pub show_told : State → ShowAsk → Result (List ℕ) Refusal
show_told s ask = do
  l ← database_of s ask.db
  id ← id_given ask.id
  tree ← or_refused why.NoSuchDocument (tree_in l.db.docs id)
  Ok (show_text id tree)

abbrev pub Shows : Answering State ShowAsk
Shows old ask told new = Reads (show_told old ask) old told new
