-- Defines the documents that a list of leaves names. A leaf is a pair of a document's id and a revision.
use Rattle.std.specs.Prelude.{ℕ, Bool, ◌&&◌, if◌then◌else◌, List, [], ◌∷◌, filter, fold, map, Option, None, Some, unwrap_or, bytes_eq}
use Rattle.std.specs.List.{list_any}
use Rattle.journal_lines.specs.Docs.{DocsView, add_pair, add_rev}

-- The items of a list, each once, in the order in which the items first occur.
abbrev pub distinct : List (List ℕ) → List (List ℕ)
distinct items = fold add_rev [] items

-- The ids of the documents of the given leaves, each once, in the order in which the ids first occur.
abbrev pub ids_of : List (List ℕ × List ℕ) → List (List ℕ)
ids_of leaves = distinct (map (λ leaf. leaf.0) leaves)

-- The revisions of the given leaves of the document `id`, each once, in the order in which the revisions first occur.
abbrev pub revs_of : List (List ℕ × List ℕ) → List ℕ → List (List ℕ)
revs_of leaves id = distinct (map (λ leaf. leaf.1) (filter (λ leaf. bytes_eq id leaf.0) leaves))

-- The documents of the given leaves, each once, with all revisions that the given leaves name for the document.
abbrev pub docs_of : List (List ℕ × List ℕ) → DocsView
docs_of leaves = map (λ id. (id, revs_of leaves id)) (ids_of leaves)

-- The stored documents after the given leaves were added to the documents `docs`.
abbrev pub add_leaves : DocsView → List (List ℕ × List ℕ) → DocsView
add_leaves docs leaves = fold (λ stored leaf. add_pair stored leaf.0 leaf.1) docs leaves

-- The revisions that `docs` has for the document `id`, or `None` if `docs` does not have this document.
abbrev pub revs_at : DocsView → List ℕ → Option (List (List ℕ))
revs_at [] id = None
revs_at (doc ∷ docs) id = if bytes_eq id doc.0 then Some doc.1 else revs_at docs id

-- Whether `docs` has the revision `rev` of the document `id`.
abbrev pub has_rev : DocsView → List ℕ → List ℕ → Bool
has_rev docs id rev = list_any (bytes_eq rev) (unwrap_or (revs_at docs id) [])

-- Whether one of the given leaves is the revision `rev` of the document `id`.
abbrev pub has_leaf : List (List ℕ × List ℕ) → List ℕ → List ℕ → Bool
has_leaf leaves id rev = list_any (λ leaf. bytes_eq id leaf.0 && bytes_eq rev leaf.1) leaves
