-- Defines which requested revisions were received, and the output of the task `receive_leaves`.
use Rattle.std.specs.Prelude.{◌≡◌, ℕ, Bool, true, false, ◌&&◌, ◌||◌, not, if◌then◌else◌, is_none, is_some, List, [], ◌∷◌, ◌++◌, length, nat_eq, filter, flat_map, fold, map, Option, None, Some, option_map, unwrap_or, bytes_eq, codes, String, string_bytes}
use Rattle.std.specs.Global.{Global}
use Rattle.std.specs.HashMap.{get_by_text}
use Rattle.std.specs.List.{list_any}
use Rattle.indexmap.specs.IndexMap.{IndexMap}
use Rattle.journal_lines.specs.Docs.{add_rev}
use Rattle.journal_lines.specs.Entries.{EntryView, entry_in, state, lacks, leaf, wrong}
use Rattle.journal_lines.specs.Leafs.{HeadView, LeafView, knows_rev}
use Rattle.journal_lines.specs.Lists.{LeavesView, leaves_line, leaves_view, texts_of}
use Rattle.journal_tasks.specs.Counting.{IsCounting, wrong_line}
use Rattle.journal_tasks.specs.Halves.{first_part, has_second_part, second_part}
use Rattle.journal_tasks.specs.declared.received.Doc.{Doc}
use Rattle.journal_tasks.specs.declared.received.Received.{Received}
use Rattle.journal_tasks.specs.declared.received.Wanted.{Wanted}

-- ---- the contents of a request and of a response

-- The leaves that are requested in one line of a request.
abbrev pub named : EntryView → List LeavesView
named (state leaves) = leaves ∷ []
named (lacks leaves) = leaves ∷ []
named (leaf head) = []
named wrong = []

-- The leaves that are requested in each line of a request, in order.
abbrev pub requested_in : List (List ℕ) → List LeavesView
requested_in lines = flat_map (λ line. named (entry_in line)) lines

-- The id and the leaf of the document in a line of a response, if the line has a document.
abbrev pub head_of : EntryView → List HeadView
head_of (state leaves) = []
head_of (lacks leaves) = []
head_of (leaf head) = head ∷ []
head_of wrong = []

-- The ids and leaves of the documents in the lines of a response, in order.
abbrev pub heads_in : List (List ℕ) → List HeadView
heads_in lines = flat_map (λ line. head_of (entry_in line)) lines

-- Whether a line of a request names the document `id`.
abbrev pub is_requested : List LeavesView → List ℕ → Bool
is_requested requested id = list_any (λ leaves. bytes_eq leaves.1 id) requested

-- Whether revision `rev` of document `id` was received: one of the document's received leaves is `rev`, or has `rev` as
-- an ancestor.
abbrev pub is_received : List HeadView → List ℕ → List ℕ → Bool
is_received heads id rev = list_any (λ head. bytes_eq head.0 id && knows_rev head.1 rev) heads

-- The received leaves of a document, each once.
abbrev pub received_leaves : List HeadView → List ℕ → List (List ℕ)
received_leaves heads id = fold (λ revs head. if bytes_eq head.0 id then add_rev revs head.1.0 else revs) [] heads

-- The revisions that a request's line names, without the revisions that were received.
abbrev pub missing_in : List HeadView → LeavesView → List (List ℕ)
missing_in heads leaves = filter (λ rev. not (is_received heads leaves.1 rev)) leaves.2

-- ---- the output

-- Whether a line of a response has a document that the request names.
abbrev pub is_answer : List LeavesView → EntryView → Bool
is_answer requested (state leaves) = false
is_answer requested (lacks leaves) = false
is_answer requested (leaf head) = is_requested requested head.0
is_answer requested wrong = false

-- Whether a line of a request has a wrong form.
abbrev pub is_unnamed : EntryView → Bool
is_unnamed (state leaves) = false
is_unnamed (lacks leaves) = false
is_unnamed (leaf head) = true
is_unnamed wrong = true

-- For each line of the input, whether the line is wrong. The first empty line separates the request and the response.
abbrev pub wrong_flags : List (List ℕ) → List Bool
wrong_flags lines =
    map (λ line. is_unnamed (entry_in line)) (first_part lines)
    ++ (if has_second_part lines then false ∷ map (λ line. not (is_answer (requested_in (first_part lines)) (entry_in line))) (second_part lines) else [])

-- The number of the first wrong line of the input.
abbrev pub wrong_received : List (List ℕ) → List ℕ → Option ℕ
wrong_received lines rest = wrong_line (λ wrong. wrong) (wrong_flags lines) rest

-- The text that is printed for a line of a response: the line, if it has a requested document and the flag `only` is
-- not set. Otherwise the text is empty.
abbrev pub passed_line : Bool → List LeavesView → List ℕ → List ℕ
passed_line only requested line = if is_answer requested (entry_in line) && not only then line ++ codes "\n" else []

-- The text that `receive_leaves` prints before the input's end. If `only` is false, the text has the lines of the
-- response that have requested documents. If `only` is true, the text is empty.
abbrev pub passed_on : Bool → List (List ℕ) → List ℕ
passed_on only lines = flat_map (passed_line only (requested_in (first_part lines))) (second_part lines)

abbrev pub is_empty : List (List ℕ) → Bool
is_empty revs = nat_eq (length revs) 0

-- The lines that `receive_leaves` prints for one line of the request. The request's line asks for the leaves `leaves`
-- of one document. The list `missing` has the requested leaves that were not received. The list `received` has all
-- received leaves of the document that the request's line names.
abbrev pub told_of : Bool → List (List ℕ) → List (List ℕ) → LeavesView → List ℕ
told_of true received missing leaves =
    if is_empty missing then [] else leaves_line (codes "state") leaves.0 leaves.1 missing
told_of false received missing leaves =
    leaves_line (codes "state") leaves.0 leaves.1 received
    ++ (if is_empty missing then [] else leaves_line (codes "lacks") leaves.0 leaves.1 leaves.2)

-- The lines that the task prints for one line of the request, which requests the leaves `leaves`. The argument `heads`
-- lists the ids and leaves of the documents in the response.
abbrev pub told : Bool → List HeadView → LeavesView → List ℕ
told only heads leaves = told_of only (received_leaves heads leaves.1) (missing_in heads leaves) leaves

-- The lines that `receive_leaves` prints at the input's end for the lines of the request, if every input line is right.
abbrev pub told_in : Bool → List (List ℕ) → List ℕ
told_in only lines = flat_map (told only (heads_in (second_part lines))) (requested_in (first_part lines))

-- Whether a requested revision was not received.
abbrev pub lacks_any : List (List ℕ) → Bool
lacks_any lines =
    list_any (λ leaves. not (is_empty (missing_in (heads_in (second_part lines)) leaves))) (requested_in (first_part lines))

-- The output for the complete input. If an input line is wrong, `receive_leaves` prints no lines about the request
-- (`told_in`).
abbrev pub received_text : Bool → List (List ℕ) → List ℕ → List ℕ
received_text only lines rest =
    passed_on only lines ++ (if is_none (wrong_received lines rest) then told_in only lines else [])

-- ---- what is stored

-- A requested revision, and whether it was received.
abbrev pub WantedView : Type 0
WantedView = List ℕ × Bool

abbrev pub wanted_view : Wanted → WantedView
wanted_view wanted = (string_bytes wanted.rev, wanted.received)

-- The requested revisions of a document, and its received leaves.
abbrev pub DocView : Type 0
DocView = List WantedView × List (List ℕ)

abbrev pub doc_view : Doc → DocView
doc_view doc = (map wanted_view doc.wanted.items, texts_of doc.leaves.keys)

-- The data that `docs` stores for the document `id`, if the document was requested.
abbrev pub doc_at : {S : Type 0} → IndexMap (String Global) Doc S → List ℕ → Option DocView
doc_at docs id = option_map doc_view (get_by_text docs id)

abbrev pub doc_or_new : Option DocView → DocView
doc_or_new doc = unwrap_or doc ([], [])

-- The data that `receive_leaves` stores for a requested revision after receiving the leaf `arrived`. The requested
-- revision counts as received if it was received before, or if it is the leaf `arrived` or an ancestor of this leaf.
abbrev pub received_by : LeafView → WantedView → WantedView
received_by arrived wanted = (wanted.0, wanted.1 || knows_rev arrived wanted.0)

-- The data that `receive_leaves` stores for a document after reading a request for the document's revisions `revs`.
abbrev pub with_wanted : List (List ℕ) → DocView → DocView
with_wanted revs doc = (doc.0 ++ map (λ rev. (rev, false)) revs, doc.1)

-- The data that `receive_leaves` stores for a document after receiving the document's leaf `arrived`.
abbrev pub with_leaf : LeafView → DocView → DocView
with_leaf arrived doc = (map (received_by arrived) doc.0, add_rev doc.1 arrived.0)

-- The data that `receive_leaves` stores for the document `id` after reading a request line with the leaves `leaves` of
-- one document.
abbrev pub wanted_at : LeavesView → (List ℕ → Option DocView) → List ℕ → Option DocView
wanted_at leaves docs id =
    if bytes_eq leaves.1 id then Some (with_wanted leaves.2 (doc_or_new (docs leaves.1))) else docs id

-- The data for the document `id` that `receive_leaves` has stored after reading one line of the request.
abbrev pub requested_by : EntryView → (List ℕ → Option DocView) → List ℕ → Option DocView
requested_by (state leaves) docs id = wanted_at leaves docs id
requested_by (lacks leaves) docs id = wanted_at leaves docs id
requested_by (leaf head) docs id = docs id
requested_by wrong docs id = docs id

-- The data for the document `id` that `receive_leaves` has stored after receiving the leaf `head`. The leaf `head` may
-- belong to the document `id` or to another document.
abbrev pub leaf_at : HeadView → (List ℕ → Option DocView) → List ℕ → Option DocView
leaf_at head docs id = if bytes_eq head.0 id then option_map (with_leaf head.1) (docs head.0) else docs id

-- The data that `receive_leaves` stores for the document `id` after reading one line of the response.
abbrev pub answered_by : EntryView → (List ℕ → Option DocView) → List ℕ → Option DocView
answered_by (state leaves) docs id = docs id
answered_by (lacks leaves) docs id = docs id
answered_by (leaf head) docs id = leaf_at head docs id
answered_by wrong docs id = docs id

-- Whether a line of the response has a document for which `docs` stores data.
abbrev pub is_stored : EntryView → (List ℕ → Option DocView) → Bool
is_stored (state leaves) docs = false
is_stored (lacks leaves) docs = false
is_stored (leaf head) docs = is_some (docs head.0)
is_stored wrong docs = false

-- Whether the list `wanted` of requested revisions marks revision `rev` as received.
abbrev pub is_marked : List WantedView → List ℕ → Bool
is_marked wanted rev = list_any (λ item. item.1 && bytes_eq item.0 rev) wanted

-- The revisions in `revs` that the list `wanted` does not mark as received.
abbrev pub unmarked : List WantedView → List (List ℕ) → List (List ℕ)
unmarked wanted revs = filter (λ rev. not (is_marked wanted rev)) revs

-- The lines that `receive_leaves` prints for one line of the request. The request's line asks for the leaves `leaves`
-- of one document. The argument `doc` is the data that `receive_leaves` has stored for the document that the request's
-- line names.
abbrev pub told_by : Bool → Option DocView → LeavesView → List ℕ
told_by only None leaves = []
told_by only (Some doc) leaves = told_of only doc.1 (unmarked doc.0 leaves.2) leaves

-- Whether a line of the request names a revision that was not received. The data stored for the line's document says
-- which revisions were received. If no data is stored for the document, the result is false.
abbrev pub lacks_by : Option DocView → LeavesView → Bool
lacks_by None leaves = false
lacks_by (Some doc) leaves = not (is_empty (unmarked doc.0 leaves.2))

-- The revisions of the document `id` that are requested by the lines of a request, in order.
abbrev pub wanted_revs : List LeavesView → List ℕ → List (List ℕ)
wanted_revs requested id = flat_map (λ leaves. if bytes_eq leaves.1 id then leaves.2 else []) requested

-- The data stored for document `id` after the given request and response were read.
abbrev pub doc_of : List LeavesView → List HeadView → List ℕ → Option DocView
doc_of requested heads id =
    if is_requested requested id then Some (map (λ rev. (rev, is_received heads id rev)) (wanted_revs requested id), received_leaves heads id) else None

-- The task has read the given lines, and has printed the text `passed_on`.
pub record IsReceiving (only : Bool) (lines : List (List ℕ)) (text : List ℕ) (task : Received) : Type 0 where
  pub counting : IsCounting (λ wrong. wrong) (wrong_flags lines) task.count
  pub only_is : task.only_lacks ≡ only
  pub part : task.in_response ≡ has_second_part lines
  pub lines_are : map leaves_view task.lines.items ≡ requested_in (first_part lines)
  pub docs_are : (id : List ℕ) → doc_at task.docs id ≡ doc_of (requested_in (first_part lines)) (heads_in (second_part lines)) id
  pub text_is : text ≡ passed_on only lines

-- The task has read the complete input: the output is complete, and the number of the first wrong line is known. If
-- every input line is right, the field `lacks` of the task `receive_leaves` says whether a requested revision was not
-- received.
pub record HasReceived (only : Bool) (lines : List (List ℕ)) (rest text : List ℕ) (task : Received) : Type 0 where
  pub text_is : text ≡ received_text only lines rest
  pub wrong : task.count.wrong ≡ wrong_received lines rest
  pub lacks : task.count.wrong ≡ None → task.lacks ≡ lacks_any lines
