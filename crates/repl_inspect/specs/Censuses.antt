-- Defines the numbers of documents, leaves and revisions in a database, as specified in docs/PROFILE.md, "Revision
-- trees" and "Leaves and the winner".
use Rattle.std.specs.Prelude.{Bool, ◌==◌, List, map, length}
use Rattle.std.specs.List.{sum_by, count_by}
use Rattle.std.specs.FinMap.{len}
use Rattle.rev_tree.specs.Tree.{TreeValue, leaves}
use Rattle.couch_base.specs.Database.{DocumentValue, DatabaseValue}
use Rattle.repl_inspect.specs.Conflicts.{live, in_conflict}
use Rattle.repl_inspect.specs.Counting.{counted}
use Rattle.repl_inspect.specs.declared.census.Census.{Census}

-- Whether a document is deleted, that is, whether the document's tree has no live leaf.
abbrev pub is_gone : TreeValue → Bool
is_gone tree = length (live tree) == 0

-- The census of a database: the numbers of documents, of deleted documents, of documents in conflict, of leaves and of
-- revisions.
abbrev pub census_of : List TreeValue → Census
census_of trees = record {
  documents = counted (length trees);
  deleted = counted (count_by is_gone trees);
  conflicts = counted (count_by in_conflict trees);
  leaves = counted (sum_by (λ (t : TreeValue). length (leaves t)) trees);
  revisions = counted (sum_by (λ (t : TreeValue). len t.origins) trees);
}

-- The revision trees of a database's documents, as a list.
abbrev pub trees : DatabaseValue → List TreeValue
trees db = map (λ (d : DocumentValue). d.tree) db.docs
