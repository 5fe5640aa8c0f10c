-- Defines the task `confirm`: the part of a journal that the journal's checksums confirm, and the report about it.
use Rattle.std.specs.Prelude.{◌≡◌, ℕ, Bool, true, false, ◌&&◌, ◌||◌, not, nat_eq, nat_lt, if◌then◌else◌, is_none, is_some, List, [], ◌∷◌, ◌++◌, ◌+◌, length, filter, flat_map, fold, map, Option, None, Some, option_map, bytes_eq, codes, decimal, String, string_bytes, Vec}
use Rattle.std.specs.Global.{Global}
use Rattle.std.specs.List.{list_any, starts_with}
use Rattle.std.specs.Option.{option_or}
use Rattle.indexmap.specs.IndexMap.{IndexMap}
use Rattle.line_reader.specs.Lines.{joined}
use Rattle.journal_core.specs.Journal.{is_sum}
use Rattle.journal_core.specs.Places.{IsAt, Place, next, place_after, start}
use Rattle.journal_core.specs.declared.blocks.Took.{Took}
use Rattle.journal_core.specs.declared.blocks.Took.TheVariants as tooks
use Rattle.journal_lines.specs.Entries.{EntryView, entry_in, state, lacks, leaf, wrong}
use Rattle.journal_lines.specs.Texts.{after}
use Rattle.journal_tasks.specs.Stating.{put_at}
use Rattle.journal_tasks.specs.declared.confirm.Confirm.{Confirm}

-- ---- the missing leaves

-- Whether a line's content is a `state` line or a `lacks` line of the document `id`.
abbrev pub is_told_of : List ℕ → EntryView → Bool
is_told_of id (state leaves) = bytes_eq leaves.1 id
is_told_of id (lacks leaves) = bytes_eq leaves.1 id
is_told_of id (leaf head) = false
is_told_of id wrong = false

-- Whether a line is a `state` line or a `lacks` line of the document `id`.
abbrev pub tells : List ℕ → List ℕ → Bool
tells id line = is_told_of id (entry_in line)

-- The document's id and the line, if the line `line` with the given content is a `lacks` line.
abbrev pub lacks_line_of : List ℕ → EntryView → List (List ℕ × List ℕ)
lacks_line_of line (state leaves) = []
lacks_line_of line (lacks leaves) = (leaves.1, line) ∷ []
lacks_line_of line (leaf head) = []
lacks_line_of line wrong = []

-- The `lacks` lines of the given lines, each with its document's id. A `lacks` line is omitted if a later line is a
-- `state` line or a `lacks` line of the document.
abbrev pub open_lacks : List (List ℕ) → List (List ℕ × List ℕ)
open_lacks [] = []
open_lacks (line ∷ lines) =
    filter (λ row. not (list_any (tells row.0) lines)) (lacks_line_of line (entry_in line)) ++ open_lacks lines

-- The `lacks` lines of documents as text.
abbrev pub lacks_text : List (List ℕ × List ℕ) → List ℕ
lacks_text table = flat_map (λ row. row.1 ++ codes "\n") table

-- ---- the report

-- Whether a line has a document.
abbrev pub is_doc_line : List ℕ → Bool
is_doc_line line = starts_with nat_eq line (codes "{")

-- The number of those lines that have documents.
abbrev pub docs_in : List (List ℕ) → ℕ
docs_in lines = length (filter is_doc_line lines)

-- The report about the confirmed blocks of a journal. It has the blocks' numbers of bytes, lines and documents, and the
-- hash and sequence of the last block. It also has the `lacks` lines of the documents whose requested leaves are
-- missing.
abbrev pub report_text : ℕ → ℕ → ℕ → List ℕ → List ℕ → List (List ℕ × List ℕ) → List ℕ
report_text bytes lines docs chain seq table =
    codes "confirmed " ++ decimal bytes ++ codes " " ++ decimal lines ++ codes " " ++ decimal docs ++ codes " " ++ chain ++ codes " "
    ++ seq ++ codes "\n" ++ lacks_text table

abbrev pub report : Place → List ℕ
report place =
    report_text (length (joined place.confirmed)) (length place.confirmed) (docs_in place.confirmed) place.chain place.seq
    (open_lacks place.confirmed)

abbrev pub is_rest : Option (List ℕ) → Bool
is_rest None = false
is_rest (Some rest) = nat_eq (length rest) 0 || starts_with nat_eq rest (codes "-")

-- Whether the sequence `seq` equals `at`, or begins with `at` followed by `-`.
abbrev pub is_at : List ℕ → List ℕ → Bool
is_at seq at = is_rest (after at seq)

-- Whether a reader's place has more confirmed lines than the place before.
abbrev pub confirms_more : Place → Place → Bool
confirms_more place place' = nat_lt (length place.confirmed) (length place'.confirmed)

-- The report at the place `place'`, if the reader has confirmed a block since the place `place`, and the block has the
-- sequence `at`.
abbrev pub report_at : List ℕ → Place → Place → Option (List ℕ)
report_at at place place' = if confirms_more place place' && is_at place'.seq at then Some (report place') else None

-- The report at the end of the last block with the sequence `at`, if the given lines confirm such a block. Before the
-- lines, the reader is at the place `place`.
abbrev pub found_from : List ℕ → Place → List (List ℕ) → Option (List ℕ)
found_from at place [] = None
found_from at place (line ∷ lines) = option_or (found_from at (next place line) lines) (report_at at place (next place line))

-- The report at the end of a journal's last block with the given sequence, if a sequence is given and the journal
-- confirms such a block.
abbrev pub found_in : Option (List ℕ) → List (List ℕ) → Option (List ℕ)
found_in None lines = None
found_in (Some at) lines = found_from at start lines

abbrev pub text_or_none : Option (List ℕ) → List ℕ
text_or_none None = []
text_or_none (Some text) = text

-- The output for a complete journal: the report about the confirmed part. If a sequence is given, the output is the
-- report at the last block with this sequence, or empty if there is no such block.
abbrev pub confirm_text : Option (List ℕ) → List (List ℕ) → List ℕ
confirm_text None lines = report (place_after lines)
confirm_text (Some at) lines = text_or_none (found_in (Some at) lines)

-- Whether the first of the given lines has a document.
abbrev pub first_has_doc : List (List ℕ) → Bool
first_has_doc [] = false
first_has_doc (line ∷ lines) = is_doc_line line

-- Whether a journal has no checksums: the first line has a document, and no line ends a block. The last line may have no
-- line end.
abbrev pub is_without_sums : List (List ℕ) → List ℕ → Bool
is_without_sums lines rest = first_has_doc (lines ++ rest ∷ []) && not (list_any is_sum (lines ++ rest ∷ []))

-- Whether a sequence is given, but the journal confirms no block with this sequence.
abbrev pub is_not_found : Option (List ℕ) → List (List ℕ) → Bool
is_not_found at lines = is_some at && is_none (found_in at lines)

-- ---- what is stored

abbrev pub texts_in : List (Vec ℕ Global) → List (List ℕ)
texts_in texts = map (λ text. text.items) texts

-- The stored `lacks` lines, each with its document's id.
abbrev pub lacks_view : {S : Type 0} → IndexMap (String Global) (Vec ℕ Global) S → List (List ℕ × List ℕ)
lacks_view table = map (λ entry. (string_bytes entry.0, entry.1.items)) table.entries

-- The table without the first line about the document `id`.
abbrev pub without : List ℕ → List (List ℕ × List ℕ) → List (List ℕ × List ℕ)
without id [] = []
without id (row ∷ table) = if bytes_eq id row.0 then table else row ∷ without id table

-- The table after the line `line` with the given content. The table has the last line of each document about which the
-- last line is a `lacks` line.
abbrev pub noted_by : List ℕ → EntryView → List (List ℕ × List ℕ) → List (List ℕ × List ℕ)
noted_by line (state leaves) table = without leaves.1 table
noted_by line (lacks leaves) table = put_at (without leaves.1 table) leaves.1 line
noted_by line (leaf head) table = table
noted_by line wrong table = table

abbrev pub noted : List (List ℕ × List ℕ) → List ℕ → List (List ℕ × List ℕ)
noted table line = noted_by line (entry_in line) table

-- The table after the given lines.
abbrev pub noted_all : List (List ℕ) → List (List ℕ × List ℕ) → List (List ℕ × List ℕ)
noted_all lines table = fold noted table lines

-- Whether a line begins as a `state` line or a `lacks` line does.
abbrev pub is_told : List ℕ → Bool
is_told line = is_some (after (codes "state ") line) || is_some (after (codes "lacks ") line)

-- The task has stored a line of the current block, which has `docs` documents with this line.
pub record KeepsLine (line : List ℕ) (docs : ℕ) (old new : Confirm) : Type 0 where
  pub same : new ≡ record old { held = docs; pending = new.pending }
  pub pending : (table : List (List ℕ × List ℕ)) → noted_all (texts_in new.pending.items) table ≡ noted (noted_all (texts_in old.pending.items) table) line

-- Whether a sequence is given, and the sequence `seq` is at the given sequence.
abbrev pub is_at_given : Option (List ℕ) → List ℕ → Bool
is_at_given None seq = false
is_at_given (Some at) seq = is_at seq at

-- The task after it has recorded whether the first line has a document, and whether a line ends a block.
abbrev pub looked : List ℕ → Confirm → Confirm
looked line task =
    record task { first_leaf = if task.begun then task.first_leaf else is_doc_line line; begun = true; sums = task.sums || is_sum line }

-- The stored report at the end of a block. The argument `stored` is the report that was stored before.
abbrev pub found_on : Option (List ℕ) → Place → List ℕ → Option (List ℕ) → Option (List ℕ)
found_on at place text stored = if is_at_given at place.seq then Some text else stored

-- The report about the confirmed blocks, given what the task stores and the reader's place.
abbrev pub stored_report : Confirm → Place → List ℕ
stored_report task place =
    report_text (length (joined place.confirmed)) (length place.confirmed) task.leaves place.chain place.seq (lacks_view task.lacks.lines)

-- The task with another stored report.
abbrev pub with_found : Confirm → Option (Vec ℕ Global) → Confirm
with_found task found = record task { found = found }

-- The task has recorded that the current block is confirmed.
pub record ClosesBlock (old new : Confirm) : Type 0 where
  pub blocks : new.blocks ≡ old.blocks
  pub leaves : new.leaves ≡ old.leaves + old.held
  pub held : new.held ≡ 0
  pub at_is : new.at ≡ old.at
  pub begun : new.begun ≡ old.begun
  pub first : new.first_leaf ≡ old.first_leaf
  pub sums : new.sums ≡ old.sums
  pub pending : new.pending.items ≡ []
  pub lacks : lacks_view new.lacks.lines ≡ noted_all (texts_in old.pending.items) (lacks_view old.lacks.lines)
  pub found : (place : Place) → IsAt old.blocks place
      → option_map (λ text. text.items) new.found ≡ found_on (option_map (λ at. at.items) old.at) place (stored_report new place) (option_map (λ text. text.items) old.found)

-- The task has recorded how the journal reader took the last line.
abbrev pub EndsLine : Took → Confirm → Confirm → Type 0
EndsLine tooks.Held old new = new ≡ old
EndsLine (tooks.Closed body) old new = ClosesBlock old new
EndsLine tooks.Damaged old new = new ≡ old

-- The task has read the given lines, and has not printed any text.
pub record IsConfirming (at : Option (List ℕ)) (lines : List (List ℕ)) (text : List ℕ) (task : Confirm) : Type 0 where
  pub place : IsAt task.blocks (place_after lines)
  pub leaves_are : task.leaves ≡ docs_in (place_after lines).confirmed
  pub held_is : (place_after lines).whole ≡ true → task.held ≡ docs_in (place_after lines).held
  pub pending_are : (place_after lines).whole ≡ true → (table : List (List ℕ × List ℕ)) → noted_all (texts_in task.pending.items) table ≡ noted_all (place_after lines).held table
  pub lacks_are : lacks_view task.lacks.lines ≡ open_lacks (place_after lines).confirmed
  pub at_is : option_map (λ at. at.items) task.at ≡ at
  pub found_is : option_map (λ text. text.items) task.found ≡ found_in at lines
  pub begun_is : task.begun ≡ not (nat_eq (length lines) 0)
  pub first_is : task.first_leaf ≡ first_has_doc lines
  pub sums_are : task.sums ≡ list_any is_sum lines
  pub text_is : text ≡ []

-- The task has read the complete input: the output is complete, and what the getters of `Confirm` return is known.
pub record HasConfirmed (at : Option (List ℕ)) (lines : List (List ℕ)) (rest text : List ℕ) (task : Confirm) : Type 0 where
  pub text_is : text ≡ confirm_text at lines
  pub place : IsAt task.blocks (place_after lines)
  pub cut_is : task.cut ≡ not (nat_eq (length rest) 0)
  pub without_sums : (task.first_leaf && not task.sums) ≡ is_without_sums lines rest
  pub not_found : (is_some task.at && is_none task.found) ≡ is_not_found at lines
