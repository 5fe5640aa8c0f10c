-- Defines the `_revs_diff` request for the leaves that a list names.
use Rattle.std.specs.Prelude.{◌≡◌, ℕ, if◌then◌else◌, is_none, List, [], ◌∷◌, ◌++◌, flat_map, map, codes}
use Rattle.json.specs.Token.{Token, begin_object, end_object, begin_array, end_array, key, string}
use Rattle.json.specs.Print.{print}
use Rattle.journal_lines.specs.Docs.{DocsView, docs_view}
use Rattle.journal_tasks.specs.Counting.{IsCounting, wrong_line}
use Rattle.journal_tasks.specs.Documents.{docs_of}
use Rattle.journal_tasks.specs.Lists.{is_wrong, leaves_in}
use Rattle.journal_tasks.specs.declared.diff.Diff.{Diff}

-- The JSON tokens of a document's member in a `_revs_diff` request. The member's name is the document's id, and the
-- member's value is the list of the document's leaves.
abbrev pub diff_member : List ℕ × List (List ℕ) → List Token
diff_member doc = key doc.0 ∷ begin_array ∷ (map string doc.1 ++ end_array ∷ [])

-- The body of the `_revs_diff` request for the given documents: a JSON object with a member for each document, in
-- order.
abbrev pub diff_body : DocsView → List ℕ
diff_body docs = print (begin_object ∷ (flat_map diff_member docs ++ end_object ∷ [])) ++ codes "\n"

-- The output for a complete list: the request for all documents of the list. If a line of the list is wrong, the output
-- is empty.
abbrev pub diff_text : List (List ℕ) → List ℕ → List ℕ
diff_text lines rest = if is_none (wrong_line is_wrong lines rest) then diff_body (docs_of (leaves_in lines)) else []

-- A task has read the given lines of a list, and has stored the documents that these lines name. The task prints
-- nothing before the end of the list.
pub record IsDiffing (lines : List (List ℕ)) (text : List ℕ) (diff : Diff) : Type 0 where
  pub counting : IsCounting is_wrong lines diff.count
  pub docs_are : docs_view diff.docs ≡ docs_of (leaves_in lines)
  pub text_is : text ≡ []

-- A task has read the complete list: the output is complete, and the number of the first wrong line is known.
pub record HasDiffed (lines : List (List ℕ)) (rest text : List ℕ) (diff : Diff) : Type 0 where
  pub text_is : text ≡ diff_text lines rest
  pub wrong : diff.count.wrong ≡ wrong_line is_wrong lines rest
