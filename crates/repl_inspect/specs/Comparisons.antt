-- Defines the comparisons of a source's documents with the documents at a target, as specified in docs/PROFILE.md,
-- "Missing revisions" and "Changes feed".
use Rattle.std.specs.Prelude.{List, map}
use Rattle.couch_base.specs.Database.{Id, DatabaseValue, tree_of}
use Rattle.couch_base.specs.Feed.{RowValue}
use Rattle.repl_inspect.specs.Comparing.{ComparisonValue, compared}

-- The comparison of document `id` at the source with document `id` at the target. In a comparison, a document that does
-- not exist has an empty tree.
abbrev pub compared_at : DatabaseValue → DatabaseValue → Id → ComparisonValue
compared_at source target id = compared (tree_of source.docs id) (tree_of target.docs id)

-- For each of the given rows of the source's feed, the comparison of the row's document.
abbrev pub comparisons : DatabaseValue → DatabaseValue → List RowValue → List ComparisonValue
comparisons source target rows = map (λ r. compared_at source target r.id) rows
