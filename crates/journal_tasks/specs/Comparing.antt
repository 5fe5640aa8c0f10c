-- Defines the comparison of two lists of leaves. The first empty line of the input separates the two lists.
use Rattle.std.specs.Prelude.{◌≡◌, ℕ, Bool, true, false, not, if◌then◌else◌, is_some, List, [], ◌∷◌, length, filter, flat_map, Option, Some, bytes_eq, codes}
use Rattle.std.specs.List.{list_any}
use Rattle.std.specs.Option.{option_or}
use Rattle.journal_lines.specs.Docs.{docs_view}
use Rattle.journal_lines.specs.Entries.{EntryView, entry_in, state, lacks, leaf, wrong}
use Rattle.journal_lines.specs.Lists.{LeavesView, leaves_line}
use Rattle.journal_tasks.specs.Counting.{IsCounting, wrong_line}
use Rattle.journal_tasks.specs.Documents.{has_leaf, has_rev, revs_at}
use Rattle.journal_tasks.specs.Halves.{first_part, has_second_part, part_flags, second_part}
use Rattle.journal_tasks.specs.Lists.{is_wrong, leaves_in}
use Rattle.journal_tasks.specs.Receiving.{is_empty}
use Rattle.journal_tasks.specs.declared.compare.Compare.{Compare}

-- The ids of the documents that a line of a list names. A line can name a document without naming a leaf of the
-- document.
abbrev pub ids_in : EntryView → List (List ℕ)
ids_in (state leaves) = leaves.1 ∷ []
ids_in (lacks leaves) = leaves.1 ∷ []
ids_in (leaf head) = head.0 ∷ []
ids_in wrong = []

-- Whether one of the given lines of a list names the document `id`.
abbrev pub names_id : List (List ℕ) → List ℕ → Bool
names_id lines id = list_any (bytes_eq id) (flat_map (λ line. ids_in (entry_in line)) lines)

-- The sequence, the document and the leaves that a line of a list names. If the line has a document, the text `-`
-- replaces the sequence.
abbrev pub named_leaves : EntryView → List LeavesView
named_leaves (state leaves) = leaves ∷ []
named_leaves (lacks leaves) = leaves ∷ []
named_leaves (leaf head) = (codes "-", head.0, head.1.0 ∷ []) ∷ []
named_leaves wrong = []

-- The line that is printed for the leaves `leaves` of a document of the second list. If the flag `documents` is set,
-- the line has all of these leaves, and is printed only if the document is not known (`known`). If the flag `documents`
-- is not set, the line has only the leaves in `missing`, and is printed only if `missing` is not empty.
abbrev pub compared_line : Bool → Bool → List (List ℕ) → LeavesView → List ℕ
compared_line true known missing leaves =
    if known then [] else leaves_line (codes "state") leaves.0 leaves.1 leaves.2
compared_line false known missing leaves =
    if is_empty missing then [] else leaves_line (codes "state") leaves.0 leaves.1 missing

-- The line that is printed for the leaves `leaves` of a document (`compared_line`). The function `knows` takes a
-- document's id, and says whether the input's first list names the document. The function `has` takes a document's id
-- and a revision, and says whether the first list has this leaf.
abbrev pub compared_by : Bool → (List ℕ → Bool) → (List ℕ → List ℕ → Bool) → LeavesView → List ℕ
compared_by documents knows has leaves =
    compared_line documents (knows leaves.1) (filter (λ rev. not (has leaves.1 rev)) leaves.2) leaves

-- The text that is printed for the line `line` of the second list, if the first list has the lines `first`.
abbrev pub compared : Bool → List (List ℕ) → List ℕ → List ℕ
compared documents first line = flat_map (compared_by documents (names_id first) (has_leaf (leaves_in first))) (named_leaves (entry_in line))

-- The output for an input that has the given lines, or begins with them.
abbrev pub compared_text : Bool → List (List ℕ) → List ℕ
compared_text documents lines = flat_map (compared documents (first_part lines)) (second_part lines)

-- For each line of an input, whether the line is wrong, that is, not a valid line of a list. The empty line that
-- separates the input's two lists does not count as wrong.
abbrev pub list_flags : List (List ℕ) → List Bool
list_flags lines = part_flags is_wrong is_wrong lines

-- The number of the first wrong line of an input. If the input has no second list, and no line is wrong, the result is
-- the number of lines.
abbrev pub wrong_compared : List (List ℕ) → List ℕ → Option ℕ
wrong_compared lines rest =
    let wrong = wrong_line (λ wrong. wrong) (list_flags lines) rest in
    if has_second_part lines then wrong else option_or wrong (Some (length lines))

-- A task has read the given lines of an input. The task has stored the documents and leaves of the input's first list,
-- and has printed the text for the second list's lines.
pub record IsComparing (documents : Bool) (lines : List (List ℕ)) (text : List ℕ) (compare : Compare) : Type 0 where
  pub counting : IsCounting (λ wrong. wrong) (list_flags lines) compare.count
  pub documents_is : compare.documents ≡ documents
  pub part : compare.in_second ≡ has_second_part lines
  pub ids_are : (id : List ℕ) → is_some (revs_at (docs_view compare.docs) id) ≡ names_id (first_part lines) id
  pub leaves_are : (id rev : List ℕ) → has_rev (docs_view compare.docs) id rev ≡ has_leaf (leaves_in (first_part lines)) id rev
  pub text_is : text ≡ compared_text documents lines

-- A task has read the complete input: the output is complete, and the number of the first wrong line is known.
pub record HasCompared (documents : Bool) (lines : List (List ℕ)) (rest text : List ℕ) (compare : Compare) : Type 0 where
  pub text_is : text ≡ compared_text documents lines
  pub wrong : compare.count.wrong ≡ wrong_compared lines rest
