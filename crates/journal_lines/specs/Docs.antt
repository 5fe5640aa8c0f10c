-- Defines lists of documents, each with its revisions, in the order in which the documents and revisions first appear.
use Rattle.std.specs.Prelude.{ℕ, List, [], ◌∷◌, ◌++◌, if◌then◌else◌, Option, None, Some, map, bytes_eq, String, string_bytes}
use Rattle.std.specs.Global.{Global}
use Rattle.std.specs.List.{list_any}
use Rattle.indexmap.specs.IndexMap.{IndexMap}
use Rattle.indexmap.specs.IndexSet.{IndexSet}
use Rattle.journal_lines.specs.Lists.{texts_of}

abbrev pub DocsView : Type 0
DocsView = List (List ℕ × List (List ℕ))

abbrev pub doc_view : {S : Type 0} → String Global × IndexSet (String Global) S → List ℕ × List (List ℕ)
doc_view doc = (string_bytes doc.0, texts_of doc.1.keys)

abbrev pub docs_view : {S T : Type 0} → IndexMap (String Global) (IndexSet (String Global) S) T → DocsView
docs_view docs = map doc_view docs.entries

-- The revisions of a set, or the empty list if the set is absent.
abbrev pub keys_or_none : {S : Type 0} → Option (IndexSet (String Global) S) → List (String Global)
keys_or_none None = []
keys_or_none (Some revs) = revs.keys

-- A list of revisions after adding revision `rev`, or the unchanged list if the list already has this revision.
abbrev pub add_rev : List (List ℕ) → List ℕ → List (List ℕ)
add_rev revs rev = if list_any (bytes_eq rev) revs then revs else revs ++ rev ∷ []

-- A list of documents with their revisions, after adding revision `rev` to document `id`. The list is unchanged if
-- document `id` already has revision `rev`.
abbrev pub add_pair : DocsView → List ℕ → List ℕ → DocsView
add_pair [] id rev = (id, rev ∷ []) ∷ []
add_pair (doc ∷ docs) id rev = if bytes_eq id doc.0 then (doc.0, add_rev doc.1 rev) ∷ docs else doc ∷ add_pair docs id rev
