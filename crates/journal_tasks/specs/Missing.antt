-- Defines the leaves of a list that are missing according to a response to `_revs_diff`. The first empty line of the
-- input separates the list and the response.
use Rattle.std.specs.Prelude.{◌≡◌, ℕ, Bool, true, false, ◌&&◌, if◌then◌else◌, is_none, is_some, List, [], ◌++◌, filter, flat_map, map, Option, None, Some, option_and_then, unwrap_or, codes}
use Rattle.std.specs.List.{list_all}
use Rattle.json.specs.Json.{Json, Members, no_members, member, document}
use Rattle.json.specs.Find.{as_object}
use Rattle.line_reader.specs.Lines.{joined}
use Rattle.journal_lines.specs.Docs.{DocsView, docs_view}
use Rattle.journal_lines.specs.Lists.{leaves_line, revs_json}
use Rattle.journal_lines.specs.Members.{items_at}
use Rattle.journal_lines.specs.Texts.{text_in}
use Rattle.journal_tasks.specs.Counting.{IsCounting, wrong_line}
use Rattle.journal_tasks.specs.Documents.{docs_of, has_leaf, has_rev, revs_at}
use Rattle.journal_tasks.specs.Halves.{first_part, has_second_part, part_flags, second_part}
use Rattle.journal_tasks.specs.Lists.{is_wrong, leaves_in}
use Rattle.journal_tasks.specs.Receiving.{is_empty}
use Rattle.journal_tasks.specs.declared.lacking.Lacking.{Lacking}

-- The revisions that a member of a response lists as missing, if the member's value has a list `missing` of strings.
abbrev pub missing_at : Json → Option (List (List ℕ))
missing_at value = option_and_then revs_json (items_at (codes "missing") value)

-- Whether a response's member for the document `id` lists only revisions that `docs` has for this document. The
-- argument `revs` is the member's list of revisions, or `None` if the member does not have such a list.
abbrev pub is_about : DocsView → List ℕ → Option (List (List ℕ)) → Bool
is_about docs id None = false
is_about docs id (Some revs) = is_some (revs_at docs id) && list_all (has_rev docs id) revs

-- Whether each member of a response lists only revisions that `docs` has.
abbrev pub are_about : DocsView → Members → Bool
are_about docs no_members = true
are_about docs (member id value members) = is_about docs id (missing_at value) && are_about docs members

-- The leaves that the members of a response name as missing.
abbrev pub missing_leaves : Members → List (List ℕ × List ℕ)
missing_leaves no_members = []
missing_leaves (member id value members) = map (λ rev. (id, rev)) (unwrap_or (missing_at value) []) ++ missing_leaves members

-- The leaves that the members of a response name as missing. The result is `None` unless each member lists only
-- revisions that `docs` has (`are_about`).
abbrev pub missing_among : DocsView → Members → Option (List (List ℕ × List ℕ))
missing_among docs members = if are_about docs members then Some (missing_leaves members) else None

-- The leaves that a response names as missing. The result is `None` unless the response is a JSON object, and each
-- member of the object lists only revisions that `docs` has.
abbrev pub missing_by : DocsView → List ℕ → Option (List (List ℕ × List ℕ))
missing_by docs response = option_and_then (missing_among docs) (option_and_then as_object (option_and_then document (text_in response)))

-- The line that is printed for a document and its revisions. The line has the revisions that are missing. If no
-- revision is missing, the text is empty. A revision is missing if `is_missing` is true of the document's id and of the
-- revision.
abbrev pub missing_line : (List ℕ → List ℕ → Bool) → List ℕ × List (List ℕ) → List ℕ
missing_line is_missing doc =
    let revs = filter (is_missing doc.0) doc.1 in
    if is_empty revs then [] else leaves_line (codes "state") (codes "-") doc.0 revs

-- The lines that are printed for the documents `docs`, if the leaves `missing` are missing.
abbrev pub missing_lines : DocsView → Option (List (List ℕ × List ℕ)) → List ℕ
missing_lines docs None = []
missing_lines docs (Some missing) = flat_map (missing_line (has_leaf missing)) docs

-- The documents of the list in the input.
abbrev pub diffed_docs : List (List ℕ) → DocsView
diffed_docs lines = docs_of (leaves_in (first_part lines))

-- The leaves that are missing according to the response in the input, or `None` if the response has a wrong form or is
-- absent. The response consists of the lines after the input's first empty line, and of the bytes `rest` after the
-- input's last line end.
abbrev pub missing_in_input : List (List ℕ) → List ℕ → Option (List (List ℕ × List ℕ))
missing_in_input lines rest =
    if has_second_part lines then missing_by (diffed_docs lines) (joined (second_part lines) ++ rest) else None

-- For each line of an input, whether the line is a wrong line of the list. No line of the response is wrong.
abbrev pub diffed_flags : List (List ℕ) → List Bool
diffed_flags lines = part_flags is_wrong (λ line. false) lines

-- The number of the first wrong line of the list. If the response is absent, and the input has bytes `rest` after its
-- last line end, these bytes are a wrong line of the list.
abbrev pub wrong_diffed : List (List ℕ) → List ℕ → Option ℕ
wrong_diffed lines rest = wrong_line (λ wrong. wrong) (diffed_flags lines) (if has_second_part lines then [] else rest)

-- The output for the complete input. If a line of the list is wrong, the output is empty.
abbrev pub missing_text : List (List ℕ) → List ℕ → List ℕ
missing_text lines rest =
    if is_none (wrong_diffed lines rest) then missing_lines (diffed_docs lines) (missing_in_input lines rest) else []

-- A task has read the given lines, has stored the list's documents, and has stored the text of the response. The task
-- prints nothing before the end of the input.
pub record IsLacking (lines : List (List ℕ)) (text : List ℕ) (lacking : Lacking) : Type 0 where
  pub counting : IsCounting (λ wrong. wrong) (diffed_flags lines) lacking.count
  pub part : lacking.in_response ≡ has_second_part lines
  pub docs_are : docs_view lacking.docs ≡ diffed_docs lines
  pub response_is : lacking.response.items ≡ joined (second_part lines)
  pub refused_is : lacking.refused ≡ false
  pub text_is : text ≡ []

-- A task has read the complete input: the output is complete, and the number of the first wrong line is known. If no
-- line is wrong, the task also knows whether the response has a wrong form or is absent.
pub record HasLacked (lines : List (List ℕ)) (rest text : List ℕ) (lacking : Lacking) : Type 0 where
  pub text_is : text ≡ missing_text lines rest
  pub wrong : lacking.count.wrong ≡ wrong_diffed lines rest
  pub refused : lacking.count.wrong ≡ None → lacking.refused ≡ is_none (missing_in_input lines rest)
