-- Defines the journal lines that the task `select` prints, as specified in docs/BACKUPS.md, "Restoring". The input of the
-- task is two copies of one journal, and the first copy has a given size in bytes.
use Rattle.std.specs.Prelude.{◌≡◌, ℕ, ◌+◌, ◌-◌, Bool, true, false, ◌&&◌, ◌||◌, not, nat_eq, nat_le, nat_lt, if◌then◌else◌, is_none, List, [], ◌∷◌, ◌++◌, length, flat_map, map, Option, None, Some, option_map, bytes_eq, codes, String, string_bytes}
use Rattle.std.specs.Global.{Global}
use Rattle.std.specs.List.{list_any}
use Rattle.std.specs.Option.{option_or}
use Rattle.indexmap.specs.IndexMap.{IndexMap, get_by_text}
use Rattle.indexmap.specs.IndexSet.{IndexSet}
use Rattle.sha2.specs.Hashers.{Holds256}
use Rattle.sha2.specs.Sha256.{sha256}
use Rattle.line_reader.specs.Lines.{joined}
use Rattle.journal_core.specs.Journal.{is_sum}
use Rattle.journal_core.specs.Places.{IsAt, is_confirmed}
use Rattle.journal_lines.specs.Entries.{EntryView, entry_in, state, lacks, leaf, wrong}
use Rattle.journal_lines.specs.Leafs.{HeadView}
use Rattle.journal_tasks.specs.Stating.{IsReading, StateView, StatesView, entries_of, place_of, states_of, wrong_in}
use Rattle.journal_tasks.specs.declared.select.Filter.{Filter}
use Rattle.journal_tasks.specs.declared.select.Select.{Select}

-- Whether the user requested the document `id`. If the user gave no id, every document is requested.
abbrev pub is_asked : Option (List ℕ) → List ℕ → Bool
is_asked None id = true
is_asked (Some only) id = bytes_eq only id

-- Whether a document that has `count` leaves is selected. With the flag `several`, a selected document must have two or
-- more leaves.
abbrev pub is_selected : Bool → Option (List ℕ) → List ℕ → ℕ → Bool
is_selected several only id count = (if several then nat_le 2 count else true) && is_asked only id

-- The arguments of the task. They give the size of the journal, and whether selected documents must have two or more
-- leaves. They also give the id of the only selected document, and whether checksums are ignored.
pub record Choice : Type 0 where
  pub size : ℕ
  pub several : Bool
  pub only : Option (List ℕ)
  pub unverified : Bool

-- ---- the two copies

-- The lines of the first copy of a journal of `size` bytes. They are the fewest lines at the input's beginning that have
-- `size` bytes or more, or all lines if the input has fewer bytes.
abbrev pub first_copy : ℕ → List (List ℕ) → List (List ℕ)
first_copy size [] = []
first_copy size (line ∷ lines) = if nat_eq size 0 then [] else line ∷ first_copy (size - (length line + 1)) lines

-- The lines of the input after the first copy of a journal of `size` bytes.
abbrev pub second_copy : ℕ → List (List ℕ) → List (List ℕ)
second_copy size [] = []
second_copy size (line ∷ lines) = if nat_eq size 0 then line ∷ lines else second_copy (size - (length line + 1)) lines

-- Whether the first copy is damaged: it does not have exactly `size` bytes, or the checksums do not confirm all of its
-- lines. If checksums are ignored, only the size counts.
abbrev pub is_copy_damaged : Choice → List (List ℕ) → Bool
is_copy_damaged choice first =
    not (nat_eq (length (joined first)) choice.size && is_confirmed (place_of choice.unverified first))

-- Whether the second copy differs from the first copy. The copies are compared by their SHA-256 hashes. If the input
-- has bytes `rest` after its last line end, the copies differ.
abbrev pub is_copy_other : List (List ℕ) → List (List ℕ) → List ℕ → Bool
is_copy_other first second rest =
    not (bytes_eq (sha256 (joined first)) (sha256 (joined second))) || not (nat_eq (length rest) 0)

-- ---- the selected lines

-- Whether a document is the revision `rev` of the document `id`.
abbrev pub is_head : List ℕ → List ℕ → HeadView → Bool
is_head id rev head = bytes_eq id head.0 && bytes_eq rev head.1.0

-- Whether a line's content is the revision `rev` of the document `id`.
abbrev pub is_entry : List ℕ → List ℕ → EntryView → Bool
is_entry id rev (state leaves) = false
is_entry id rev (lacks leaves) = false
is_entry id rev (leaf head) = is_head id rev head
is_entry id rev wrong = false

-- Whether a line of a journal has the revision `rev` of the document `id`.
abbrev pub has_head : List ℕ → List ℕ → List ℕ → Bool
has_head id rev line = if is_sum line then false else is_entry id rev (entry_in line)

-- The number of the last of the given lines that passes the test `test`, if one passes. The first line has the number
-- `before` + 1.
abbrev pub last_number : (List ℕ → Bool) → ℕ → List (List ℕ) → Option ℕ
last_number test before [] = None
last_number test before (line ∷ lines) =
    option_or (last_number test (before + 1) lines) (if test line then Some (before + 1) else None)

-- The number of the last line that has the revision `rev` of the document `id`, if there is such a line.
abbrev pub leaf_number : List (List ℕ) → List ℕ → List ℕ → Option ℕ
leaf_number lines id rev = last_number (has_head id rev) 0 lines

-- The leaves `revs` of the document `id`, if the document is selected.
abbrev pub selected_revs : Bool → Option (List ℕ) → List ℕ → List (List ℕ) → List (List ℕ × List ℕ)
selected_revs several only id revs = if is_selected several only id (length revs) then map (λ rev. (id, rev)) revs else []

-- The leaves of a document, if the document is selected.
abbrev pub selected_of : Bool → Option (List ℕ) → List ℕ × StateView → List (List ℕ × List ℕ)
selected_of several only doc = selected_revs several only doc.0 doc.1.1

-- The leaves of the selected documents, given the states of all documents.
abbrev pub selected_leaves : Bool → Option (List ℕ) → StatesView → List (List ℕ × List ℕ)
selected_leaves several only states = flat_map (selected_of several only) states

-- Whether the optional number is `number`.
abbrev pub is_number : ℕ → Option ℕ → Bool
is_number number None = false
is_number number (Some n) = nat_eq number n

-- Whether the line with the number `number` is the last line of one of the given leaves. The function `number_of` takes
-- a leaf's id and revision, and returns the number of the leaf's last line.
abbrev pub is_number_of : (List ℕ → List ℕ → Option ℕ) → List (List ℕ × List ℕ) → ℕ → Bool
is_number_of number_of leaves number = list_any (λ leaf. is_number number (number_of leaf.0 leaf.1)) leaves

-- Whether one of the given leaves has no line.
abbrev pub lacks_number : (List ℕ → List ℕ → Option ℕ) → List (List ℕ × List ℕ) → Bool
lacks_number number_of leaves = list_any (λ leaf. is_none (number_of leaf.0 leaf.1)) leaves

-- The leaves that the task selects from the first copy of the journal.
abbrev pub chosen : Choice → List (List ℕ) → List (List ℕ × List ℕ)
chosen choice first = selected_leaves choice.several choice.only (states_of (entries_of first))

-- Whether the task selects the line with the number `number` from the first copy of the journal.
abbrev pub is_chosen : Choice → List (List ℕ) → ℕ → Bool
is_chosen choice first number = is_number_of (leaf_number first) (chosen choice first) number

-- Whether a selected leaf is missing from the first copy of the journal.
abbrev pub lacks_chosen : Choice → List (List ℕ) → Bool
lacks_chosen choice first = lacks_number (leaf_number first) (chosen choice first)

-- Those of the given lines whose numbers pass the test `test`, each with its line end. The first line has the number
-- `before` + 1.
abbrev pub lines_at : (ℕ → Bool) → ℕ → List (List ℕ) → List ℕ
lines_at test before [] = []
lines_at test before (line ∷ lines) = (if test (before + 1) then line ++ codes "\n" else []) ++ lines_at test (before + 1) lines

-- Whether the task prints lines: the first copy is not damaged, and each of its lines has a right form.
abbrev pub prints : Choice → List (List ℕ) → Bool
prints choice first = not (is_copy_damaged choice first) && is_none (wrong_in first [])

-- The output for two copies: the selected lines of the second copy.
abbrev pub printed : Choice → List (List ℕ) → List (List ℕ) → List ℕ
printed choice first second = if prints choice first then lines_at (is_chosen choice first) 0 second else []

-- The output for an input that has the given lines, or begins with them.
abbrev pub selected_text : Choice → List (List ℕ) → List ℕ
selected_text choice lines = printed choice (first_copy choice.size lines) (second_copy choice.size lines)

-- ---- what is stored

-- The arguments that a task stores.
abbrev pub choice_of : ℕ → Filter → Choice
choice_of size filter =
    record { size = size; several = filter.several; only = option_map string_bytes filter.id; unverified = filter.unverified }

-- The line number that is stored for a revision of a document, if a number is stored.
abbrev pub text_number : {T : Type 0} → Option (IndexMap (String Global) ℕ T) → List ℕ → Option ℕ
text_number None rev = None
text_number (Some lines) rev = get_by_text lines rev

-- The stored line number of a leaf, if a number is stored.
abbrev pub number_at : {S T : Type 0} → IndexMap (String Global) (IndexMap (String Global) ℕ T) S → List ℕ → List ℕ → Option ℕ
number_at numbers id rev = text_number (get_by_text numbers id) rev

-- The line number of a leaf after the line with the number `number`. The option is the document that this line has.
-- Before this line, the number of the leaf is `before`.
abbrev pub noted_number : Option HeadView → ℕ → List ℕ → List ℕ → Option ℕ → Option ℕ
noted_number None number id rev before = before
noted_number (Some head) number id rev before = if is_head id rev head then Some number else before

-- Whether a set of numbers has the number `number`.
abbrev pub has_number : {S : Type 0} → IndexSet ℕ S → ℕ → Bool
has_number numbers number = list_any (nat_eq number) numbers.keys

-- Whether the copies differ, given the stored hash of the first copy, the hash of the second copy, and the bytes after
-- the last line end.
abbrev pub other_hash : Option (List ℕ) → List ℕ → List ℕ → Bool
other_hash None second rest = true
other_hash (Some first) second rest = not (bytes_eq first second) || not (nat_eq (length rest) 0)

-- The task has read all of the given lines as lines of the first copy.
pub record IsOpening (choice : Choice) (lines : List (List ℕ)) (task : Select) : Type 0 where
  pub choice_is : choice_of task.size task.filter ≡ choice
  pub reading : IsReading choice.unverified lines task.journal
  pub numbers_are : (place_of choice.unverified lines).whole ≡ true → (id rev : List ℕ) → number_at task.numbers id rev ≡ leaf_number lines id rev
  pub bytes : task.bytes ≡ length (joined lines)
  pub hashed : Holds256 task.hasher (joined lines)
  pub first_is : task.first ≡ None
  pub none_selected : task.selected.keys ≡ []
  pub damaged_is : task.damaged ≡ false
  pub seconds_is : task.seconds ≡ 0

-- The task has read the first copy `first` and the lines `second` of the second copy.
pub record IsClosed (choice : Choice) (first second : List (List ℕ)) (task : Select) : Type 0 where
  pub choice_is : choice_of task.size task.filter ≡ choice
  pub reading : IsReading choice.unverified first task.journal
  pub first_is : task.first ≡ Some (sha256 (joined first))
  pub hashed : Holds256 task.hasher (joined second)
  pub seconds_is : task.seconds ≡ length second
  pub damaged_is : task.damaged ≡ is_copy_damaged choice first
  pub selected_are : is_copy_damaged choice first ≡ false → (number : ℕ) → has_number task.selected number ≡ is_chosen choice first number
  pub lacks_is : is_copy_damaged choice first ≡ false → task.lacks ≡ lacks_chosen choice first

-- The task has read the given lines. If these lines have fewer bytes than the journal, they all belong to the first
-- copy. Otherwise, the first copy was read.
abbrev pub IsStage : Bool → Choice → List (List ℕ) → Select → Type 0
IsStage true choice lines task = IsOpening choice lines task
IsStage false choice lines task = IsClosed choice (first_copy choice.size lines) (second_copy choice.size lines) task

-- The task has read the given lines, and has printed the selected lines of the second copy.
pub record IsSelecting (choice : Choice) (lines : List (List ℕ)) (text : List ℕ) (task : Select) : Type 0 where
  pub stage : IsStage (nat_lt (length (joined lines)) choice.size) choice lines task
  pub text_is : text ≡ selected_text choice lines

-- The task has read the complete input: the output is complete, and it is known whether the first copy is damaged. If
-- the first copy is not damaged, the following is also known: the number of the first wrong line, whether the copies
-- differ, and whether a selected leaf is missing.
pub record HasSelected (choice : Choice) (lines : List (List ℕ)) (rest text : List ℕ) (task : Select) : Type 0 where
  pub text_is : text ≡ selected_text choice lines
  pub damaged : task.damaged ≡ is_copy_damaged choice (first_copy choice.size lines)
  pub place : IsAt task.journal.blocks (place_of choice.unverified (first_copy choice.size lines))
  pub wrong : is_copy_damaged choice (first_copy choice.size lines) ≡ false → task.journal.count.wrong ≡ wrong_in (first_copy choice.size lines) []
  pub differs : is_copy_damaged choice (first_copy choice.size lines) ≡ false → task.differs ≡ is_copy_other (first_copy choice.size lines) (second_copy choice.size lines) rest
  pub lacks : is_copy_damaged choice (first_copy choice.size lines) ≡ false → task.lacks ≡ lacks_chosen choice (first_copy choice.size lines)
