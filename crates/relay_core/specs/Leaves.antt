-- Defines whether a list of documents, or a list of error rows, names a leaf of a document.
use Rattle.std.specs.Prelude.{ℕ, ◌+◌, Bool, true, false, ◌&&◌, ◌||◌, not, List, [], ◌∷◌, ◌++◌, Option, None, Some, codes, filter, map, length, bytes_eq}
use Rattle.std.specs.List.{list_any, list_all}
use Rattle.relay_core.specs.Messages.{Text, DocView, RowErrorView}

-- ---- documents

-- Whether a list of texts has the given text.
abbrev pub has_text : List Text → Text → Bool
has_text texts text = list_any (λ t. bytes_eq t text) texts

-- Whether one of the documents of a list has the given id and the given leaf.
abbrev pub names : List DocView → Text → Text → Bool
names docs id leaf = list_any (λ d. bytes_eq d.0 id && has_text d.1 leaf) docs

-- Whether one of the documents of a list has the given id.
abbrev pub has_id : List DocView → Text → Bool
has_id docs id = list_any (λ d. bytes_eq d.0 id) docs

-- Whether the documents of a list have distinct ids.
abbrev pub are_distinct : List DocView → Bool
are_distinct [] = true
are_distinct (d ∷ ds) = not (has_id ds d.0) && are_distinct ds

abbrev pub is_filled : List Text → Bool
is_filled [] = false
is_filled (r ∷ revs) = true

-- Whether each document of a list has at least one leaf.
abbrev pub have_leaves : List DocView → Bool
have_leaves docs = list_all (λ d. is_filled d.1) docs

-- Whether the list `docs` contains each leaf of the list `revs` as a leaf of the document `id`.
abbrev pub are_named : List DocView → Text → List Text → Bool
are_named docs id revs = list_all (λ r. names docs id r) revs

-- Whether the list `docs` contains each leaf of the documents in the list `named`.
abbrev pub name_all : List DocView → List DocView → Bool
name_all docs named = list_all (λ d. are_named docs d.0 d.1) named

-- The number of leaves in a list of documents.
abbrev pub leaf_count : List DocView → ℕ
leaf_count [] = 0
leaf_count (d ∷ ds) = length d.1 + leaf_count ds

-- A list of one document with the given id and leaves, or the empty list if there are no leaves.
abbrev pub doc_if_any : Text → List Text → List DocView
doc_if_any id [] = []
doc_if_any id (r ∷ revs) = (id, r ∷ revs) ∷ []

-- The documents of a list, each with only those of its leaves that pass the test p. If no leaf of a document passes the
-- test p, the document is omitted.
abbrev pub docs_where : (Text → Text → Bool) → List DocView → List DocView
docs_where p [] = []
docs_where p (d ∷ ds) = doc_if_any d.0 (filter (λ r. p d.0 r) d.1) ++ docs_where p ds

-- ---- rows

abbrev pub is_refusal : RowErrorView → Bool
is_refusal row = bytes_eq row.error (codes "forbidden") || bytes_eq row.error (codes "unauthorized")

-- Whether an error row is about the given leaf. An error row that names a revision is only about the leaf with this
-- revision. An error row without a revision is about every leaf.
abbrev pub is_about : Option Text → Text → Bool
is_about None leaf = true
is_about (Some rev) leaf = bytes_eq rev leaf

-- Whether one of the error rows is about the given leaf of document `id`.
abbrev pub are_about : List RowErrorView → Text → Text → Bool
are_about rows id leaf = list_any (λ r. bytes_eq r.id id && is_about r.rev leaf) rows

abbrev pub refusals_in : List RowErrorView → List RowErrorView
refusals_in rows = filter (λ r. is_refusal r) rows

-- Whether one of the error rows refuses the given leaf of document `id`.
abbrev pub refuses : List RowErrorView → Text → Text → Bool
refuses rows id leaf = are_about (refusals_in rows) id leaf

-- Whether each given leaf of document `id` has an error row in the list `rows`.
abbrev pub are_all_about : List RowErrorView → Text → List Text → Bool
are_all_about rows id revs = list_all (λ r. are_about rows id r) revs

-- Whether each leaf of the documents has an error row in the list `rows`.
abbrev pub cover : List RowErrorView → List DocView → Bool
cover rows docs = list_all (λ d. are_all_about rows d.0 d.1) docs

-- The error row for a leaf whose document is too large for the target.
abbrev pub too_large_row : Text → Text → RowErrorView
too_large_row id leaf = record { id = id; rev = Some leaf; error = codes "too_large"; reason = codes "status 413" }

-- The error rows of a document that is too large for the target, one for each leaf.
abbrev pub too_large_rows : Text → List Text → List RowErrorView
too_large_rows id revs = map (λ r. too_large_row id r) revs

-- Whether a list has exactly one document, and this document has the id `id`.
abbrev pub is_alone : List DocView → Text → Bool
is_alone [] id = false
is_alone (d ∷ []) id = bytes_eq d.0 id
is_alone (d ∷ e ∷ ds) id = false
