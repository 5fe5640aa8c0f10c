-- This file defines the prepared trees of new documents, which are built before the documents are settled.
use Rattle.std.specs.Prelude.{◌≡◌, ℕ, List, Option, Some, length, slice_get}
use Rattle.rev_tree.specs.Tree.{merged, no_revisions}
use Rattle.rev_tree.specs.declared.origin.Origin.{Origin}
use Rattle.doc_json.specs.Document.{Document}
use Rattle.couch_base.specs.Database.{IsDocumentTree}
use Rattle.couch_base.specs.Put.{content_of}
use Rattle.couch_base.specs.declared.prepared_tree.PreparedTree.{PreparedTree}

-- The tree m was prepared for document d: it is what a merge of d's ancestry and content into an empty tree gives, with
-- any origin. The field `key` of m is d's id.
pub record IsMadeOf (d : Document) (m : PreparedTree) : Type 0 where
  pub origin : Origin
  pub key : m.key ≡ d.id
  pub tree : m.tree ≡ merged no_revisions d.ancestry (content_of d.deleted d.body) origin
  pub document : IsDocumentTree m.tree

-- If the list `docs` has a document at index i, and the list `all` has a prepared tree at index i, the tree was prepared
-- for this document (`IsMadeOf`).
abbrev pub AreMade : List Document → List (Option PreparedTree) → Type 0
AreMade docs all =
    (i : ℕ) (d : Document) (m : PreparedTree) → slice_get docs i ≡ Some d → slice_get all i ≡ Some (Some m) → IsMadeOf d m

-- Each document of a list has an item in the list `all`: its prepared tree, or `None`.
pub record AreMadeAll (docs : List Document) (all : List (Option PreparedTree)) : Type 0 where
  pub made : AreMade docs all
  pub length : length all ≡ length docs
