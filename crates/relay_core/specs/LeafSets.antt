-- Defines when a set of leaves contains a leaf, and when a set of document ids contains an id. A key of a set of ids is
-- a reference to an id. A key of a set of leaves is a pair: a reference to an id, and a reference to a leaf.
use Rattle.std.specs.Prelude.{Bool, ◌&&◌, List, bytes_eq}
use Rattle.std.specs.Borrow.{Bor}
use Rattle.std.specs.List.{list_any, list_all}
use Rattle.relay_core.specs.Messages.{Text, DocView}
use Rattle.relay_core.specs.Leaves.{has_text}

-- Whether a set of leaves has the given leaf of the document with the given id.
abbrev pub has_leaf : List (Bor Text × Bor Text) → Text → Text → Bool
has_leaf keys id leaf = list_any (λ k. bytes_eq id k.0.now && bytes_eq leaf k.1.now) keys

-- Whether a document has the given id and the given leaf.
abbrev pub is_leaf_of : DocView → Text → Text → Bool
is_leaf_of doc id leaf = bytes_eq doc.0 id && has_text doc.1 leaf

-- Whether each leaf of the given documents passes a test.
abbrev pub all_leaves : (Text → Text → Bool) → List DocView → Bool
all_leaves p docs = list_all (λ d. list_all (λ r. p d.0 r) d.1) docs
