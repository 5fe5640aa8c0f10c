-- Defines the command `conflicts`, as specified in docs/PROFILE.md, "Command lines" and "Answers".
use Rattle.std.specs.Prelude.{◌≡◌, ℕ, List, map, [], ◌∷◌, ◌++◌, codes, decimal, None, Result, Ok, string_bytes}
use Rattle.std.specs.List.{flat_map}
use Rattle.std.specs.Option.{option_map_or}
use Rattle.serde_json.specs.Data.{Data}
use Rattle.couch_base.specs.Database.{DatabaseValue, tree_in, tree_of}
use Rattle.couch_base.specs.Feed.{RowValue, feed}
use Rattle.repl_inspect.specs.Censuses.{census_of, trees}
use Rattle.repl_inspect.specs.Conflicts.{conflicting}
use Rattle.repl_inspect.specs.declared.census.Census.{Census}
use Rattle.script_engine.specs.Serving.{Answering}
use Rattle.script_databases.specs.Databases.{State, peer_at}
use Rattle.script_databases.specs.declared.refusal.Refusal.{Refusal}
use Rattle.rev_core.specs.Checks.{◌>>=◌}
use Rattle.command_api.specs.Checks.{needed}
use Rattle.command_api.specs.Members.{name_at, if_only}
use Rattle.command_api.specs.Telling.{database_of, Reads}
use Rattle.command_api.specs.Texts.{ended, revs_line}
use Rattle.read_commands.specs.Walks.{left_in, holds_in, rows_left, rows_walked}
use Rattle.read_commands.specs.declared.conflicts.Conflicts.{Conflicts}
use Rattle.read_commands.specs.declared.conflicts.ConflictsRest.{ConflictsRest}

-- ---- its parameters

-- The parameters of `conflicts`, which prints the documents in conflict.
pub record ConflictsAsk : Type 0 where
  pub db : List ℕ

abbrev pub conflicts_asked : Conflicts → ConflictsAsk
conflicts_asked ask = record { db = ask.db.now }

abbrev pub conflicts_in : Data → Result ConflictsAsk Refusal
conflicts_in d = do
  db ← needed (name_at (codes "db") d)
  needed (if_only (codes "do" ∷ codes "db" ∷ []) d (record { db = db }))

-- ---- its output

-- The line that `conflicts` prints for the document of a feed row. The line has the document's live leaves, and is
-- empty if the document has fewer than two live leaves.
abbrev pub conflict_line : DatabaseValue → RowValue → List ℕ
conflict_line db r = option_map_or (λ tree. revs_line (codes "conflict") r.id (conflicting tree)) (tree_in db.docs r.id) []

-- The last line of `conflicts`: the number of documents in conflict, and the number of all documents.
abbrev pub conflicts_line : Census → List ℕ
conflicts_line c = ended (codes "conflicts " ++ decimal c.conflicts ++ codes " of " ++ decimal c.documents ++ codes " documents")

abbrev pub conflicts_text : DatabaseValue → List ℕ
conflicts_text db = flat_map (conflict_line db) (feed db 0 db.update_seq) ++ conflicts_line (census_of (trees db))

-- The output that `conflicts` has not yet printed, which ends with the counts of all documents.
abbrev pub conflicts_left : State → ConflictsRest → List ℕ
conflicts_left s r =
    left_in (peer_at s (string_bytes r.db)) (λ l. flat_map (conflict_line l.db) (rows_left l.db r.walk) ++ conflicts_line (census_of (trees l.db)))

-- So far, the command `conflicts` has counted exactly the documents of the feed rows that it has processed. The command
-- `conflicts` reads the feed of all documents.
abbrev pub FitsConflicts : State → ConflictsRest → Type 0
FitsConflicts s r =
    holds_in (peer_at s (string_bytes r.db)) (λ l. (earlier : List RowValue)
    × (r.census ≡ census_of (map (λ x. tree_of l.db.docs x.id) earlier))
    × (earlier ++ rows_left l.db r.walk ≡ rows_walked l.db r.walk) × (r.walk.chosen ≡ None))

-- ---- its result

abbrev pub conflicts_told : State → ConflictsAsk → Result (List ℕ) Refusal
conflicts_told s ask = do
  l ← database_of s ask.db
  Ok (conflicts_text l.db)

abbrev pub ListsConflicts : Answering State ConflictsAsk
ListsConflicts old ask told new = Reads (conflicts_told old ask) old told new
