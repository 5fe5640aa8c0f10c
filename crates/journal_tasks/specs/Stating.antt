-- Defines the last states of a journal's documents, as specified in docs/PROFILE.md, "Journals", and the task `states`.
use Rattle.std.specs.Prelude.{◌≡◌, ℕ, Bool, true, false, ◌&&◌, not, nat_eq, if◌then◌else◌, is_none, List, [], ◌∷◌, length, flat_map, map, Option, None, Some, unwrap_or, bytes_eq, codes, String, string_bytes}
use Rattle.std.specs.Global.{Global}
use Rattle.std.specs.Option.{option_or}
use Rattle.indexmap.specs.IndexMap.{IndexMap}
use Rattle.journal_core.specs.Journal.{is_sum}
use Rattle.journal_core.specs.Places.{IsAt, Place, is_confirmed, place_after, start}
use Rattle.journal_core.specs.declared.blocks.Took.{Took}
use Rattle.journal_core.specs.declared.blocks.Took.TheVariants as tooks
use Rattle.journal_lines.specs.Docs.{add_rev}
use Rattle.journal_lines.specs.Entries.{EntryView, entry_in, state, lacks, leaf, wrong}
use Rattle.journal_lines.specs.Leafs.{HeadView}
use Rattle.journal_lines.specs.Lists.{LeavesView, leaves_line, texts_of}
use Rattle.journal_tasks.specs.Counting.{IsCounting, wrong_line}
use Rattle.journal_tasks.specs.Documents.{distinct}
use Rattle.journal_tasks.specs.Lists.{is_wrong}
use Rattle.journal_tasks.specs.declared.journal.Journal.{Journal}
use Rattle.journal_tasks.specs.declared.state_map.State.{State}
use Rattle.journal_tasks.specs.declared.states.States.{States}

-- ---- the states of documents

-- The state of a document: a sequence, the document's leaves, and whether a `state` line of the journal says so.
abbrev pub StateView : Type 0
StateView = List ℕ × List (List ℕ) × Bool

abbrev pub state_view : State → StateView
state_view s = (string_bytes s.seq, texts_of s.revs.items, s.named)

-- The states of documents, each with the document's id.
abbrev pub StatesView : Type 0
StatesView = List (List ℕ × StateView)

abbrev pub states_view : {S : Type 0} → IndexMap (String Global) State S → StatesView
states_view states = map (λ entry. (string_bytes entry.0, state_view entry.1)) states.entries

-- The contents of those lines of a journal that do not end a block.
abbrev pub entries_of : List (List ℕ) → List EntryView
entries_of lines = flat_map (λ line. if is_sum line then [] else entry_in line ∷ []) lines

-- The id of the document whose state a line names, or to whose state a line adds a leaf.
abbrev pub stated : EntryView → List (List ℕ)
stated (state leaves) = leaves.1 ∷ []
stated (lacks leaves) = []
stated (leaf head) = head.0 ∷ []
stated wrong = []

-- The ids of the documents that have a state, each once, in the order in which the ids first occur.
abbrev pub stated_ids : List EntryView → List (List ℕ)
stated_ids entries = distinct (flat_map stated entries)

-- The leaves that a line names, if the line is a `state` line of the document `id`.
abbrev pub state_about : List ℕ → EntryView → Option LeavesView
state_about id (state leaves) = if bytes_eq id leaves.1 then Some leaves else None
state_about id (lacks leaves) = None
state_about id (leaf head) = None
state_about id wrong = None

-- The leaves that the last `state` line of the document `id` names, or `None` if there is no such line.
abbrev pub last_state : List EntryView → List ℕ → Option LeavesView
last_state [] id = None
last_state (entry ∷ entries) id = option_or (last_state entries id) (state_about id entry)

-- The revision that a line has, if the line has a document with the id `id`.
abbrev pub rev_about : List ℕ → EntryView → List (List ℕ)
rev_about id (state leaves) = []
rev_about id (lacks leaves) = []
rev_about id (leaf head) = if bytes_eq id head.0 then head.1.0 ∷ [] else []
rev_about id wrong = []

-- The revisions of the document `id` in the lines that have documents, each once, in the order in which the revisions
-- first occur.
abbrev pub stored_revs : List EntryView → List ℕ → List (List ℕ)
stored_revs entries id = distinct (flat_map (rev_about id) entries)

-- The state of a document that the `state` line with the leaves `named` gives. If the document has no `state` line, its
-- leaves are the revisions `stored`, and its sequence is unknown (`-`).
abbrev pub state_by : Option LeavesView → List (List ℕ) → StateView
state_by None stored = (codes "-", stored, false)
state_by (Some named) stored = (named.0, named.2, true)

-- The last state of the document `id` of a journal.
abbrev pub state_of : List EntryView → List ℕ → StateView
state_of entries id = state_by (last_state entries id) (stored_revs entries id)

-- The last states of all documents of a journal.
abbrev pub states_of : List EntryView → StatesView
states_of entries = map (λ id. (id, state_of entries id)) (stated_ids entries)

-- ---- a journal that is read completely

-- Whether a line of a journal has a wrong form.
abbrev pub is_wrong_line : List ℕ → Bool
is_wrong_line line = if is_sum line then false else is_wrong line

-- The place of a journal reader after the given lines. If the reader ignores checksums (`unverified`), the place stays
-- at the journal's start.
abbrev pub place_of : Bool → List (List ℕ) → Place
place_of unverified lines = if unverified then start else place_after lines

-- Whether a journal is damaged. If checksums are not ignored (`unverified`), a journal is damaged if the checksums do
-- not confirm all lines. A journal is also damaged if it has bytes `rest` after its last line end.
abbrev pub is_damaged : Bool → List (List ℕ) → List ℕ → Bool
is_damaged unverified lines rest = not (is_confirmed (place_of unverified lines) && nat_eq (length rest) 0)

-- The number of the first line of a journal that has a wrong form.
abbrev pub wrong_in : List (List ℕ) → List ℕ → Option ℕ
wrong_in lines rest = wrong_line is_wrong_line lines rest

-- ---- the output

-- The `state` line that names the state of a document.
abbrev pub state_line : List ℕ × StateView → List ℕ
state_line doc = leaves_line (codes "state") doc.1.0 doc.0 doc.1.1

abbrev pub state_lines : StatesView → List ℕ
state_lines states = flat_map state_line states

-- The output of the task `states` for a complete journal: a `state` line for each document. If the journal is damaged,
-- or a line has a wrong form, the output is empty.
abbrev pub states_text : Bool → List (List ℕ) → List ℕ → List ℕ
states_text unverified lines rest =
    if is_damaged unverified lines rest then []
    else (if is_none (wrong_in lines rest) then state_lines (states_of (entries_of lines)) else [])

-- ---- what is stored

abbrev pub no_state : StateView
no_state = (codes "-", [], false)

abbrev pub state_or_none : Option StateView → StateView
state_or_none value = unwrap_or value no_state

-- The value that a list of documents has for the document `id`, or the value `none` if the list lacks this document.
abbrev pub value_at : {A : Type 0} → A → List (List ℕ × A) → List ℕ → A
value_at none [] id = none
value_at none (doc ∷ docs) id = if bytes_eq id doc.0 then doc.1 else value_at none docs id

-- A list of documents after the document `id` gets the value `value`. A new document is added at the list's end.
abbrev pub put_at : {A : Type 0} → List (List ℕ × A) → List ℕ → A → List (List ℕ × A)
put_at [] id value = (id, value) ∷ []
put_at (doc ∷ docs) id value = if bytes_eq id doc.0 then (doc.0, value) ∷ docs else doc ∷ put_at docs id value

-- The state that `states` has for the document `id`, or `no_state` if it has no state for this document.
abbrev pub state_at : StatesView → List ℕ → StateView
state_at states id = value_at no_state states id

-- The state of a document after a line with the document's revision `rev`. A state that a `state` line names stays
-- unchanged.
abbrev pub with_rev : List ℕ → StateView → StateView
with_rev rev value = if value.2 then value else (value.0, add_rev value.1 rev, false)

-- The states after a line with the content `entry`.
abbrev pub stated_by : EntryView → StatesView → StatesView
stated_by (state leaves) states = put_at states leaves.1 (leaves.0, leaves.2, true)
stated_by (lacks leaves) states = states
stated_by (leaf head) states = put_at states head.0 (with_rev head.1.0 (state_at states head.0))
stated_by wrong states = states

-- The document that a line has, if the line has a document.
abbrev pub head_in : EntryView → Option HeadView
head_in (state leaves) = None
head_in (lacks leaves) = None
head_in (leaf head) = Some head
head_in wrong = None

-- Whether the checksums have not shown damage, given the result of reading a line.
abbrev pub is_right : Took → Bool
is_right tooks.Held = true
is_right (tooks.Closed body) = true
is_right tooks.Damaged = false

-- The document that a journal's last line has, given the line and the place of the reader after the line. If the place
-- is damaged or the line ends a block, there is no document.
abbrev pub head_read : Place → List ℕ → Option HeadView
head_read place line = if place.whole then (if is_sum line then None else head_in (entry_in line)) else None

-- A journal reader has read the given lines. If the checksums show no damage, the reader stores the last states of all
-- documents, and the number of the first line with a wrong form.
pub record IsReading (unverified : Bool) (lines : List (List ℕ)) (journal : Journal) : Type 0 where
  pub unverified_is : journal.unverified ≡ unverified
  pub place : IsAt journal.blocks (place_of unverified lines)
  pub damaged_is : journal.damaged ≡ not (place_of unverified lines).whole
  pub counting : (place_of unverified lines).whole ≡ true → IsCounting is_wrong_line lines journal.count
  pub states_are : (place_of unverified lines).whole ≡ true → states_view journal.states ≡ states_of (entries_of lines)

-- The task has read the given lines, and has not printed any text.
pub record IsStating (unverified : Bool) (lines : List (List ℕ)) (text : List ℕ) (task : States) : Type 0 where
  pub reading : IsReading unverified lines task.journal
  pub text_is : text ≡ []

-- The task has read the complete input: the output is complete, and it is known whether the journal is damaged. If the
-- journal is not damaged, the number of the first line with a wrong form is known.
pub record HasStated (unverified : Bool) (lines : List (List ℕ)) (rest text : List ℕ) (task : States) : Type 0 where
  pub text_is : text ≡ states_text unverified lines rest
  pub damaged : task.journal.damaged ≡ is_damaged unverified lines rest
  pub place : IsAt task.journal.blocks (place_of unverified lines)
  pub wrong : is_damaged unverified lines rest ≡ false → task.journal.count.wrong ≡ wrong_in lines rest
