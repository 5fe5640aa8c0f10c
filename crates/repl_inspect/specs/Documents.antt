-- Defines a document for each leaf of a tree, with the leaf's known ancestry, as specified in docs/PROFILE.md,
-- "Fetching".
use Rattle.std.specs.Prelude.{List, map}
use Rattle.rev_tree.specs.Tree.{TreeValue, leaves}
use Rattle.doc_json.specs.Document.{Document}
use Rattle.couch_base.specs.Database.{Id, DatabaseValue, tree_of}
use Rattle.couch_base.specs.Messages.{leaf_document}

-- For each leaf of a tree, winner first, a document with the leaf's ancestors and content.
abbrev pub documents_in : Id → TreeValue → List Document
documents_in id tree = map (leaf_document id tree) (leaves tree)

-- For each leaf of document `id` in a database, winner first, a document with the leaf's ancestors and content.
abbrev pub documents_at : DatabaseValue → Id → List Document
documents_at db id = documents_in id (tree_of db.docs id)
