-- This file defines the effect of running the program `couch_journal` with any reader and any writer.
use Rattle.std.specs.Prelude.{◌≡◌, ◌⊎◌, ◌++◌, ◌&&◌, ◌||◌, nat_eq, is_some, [], ℕ, List, length, suc, Bool, true, false, All, Option, is_none, option_map, None, Some, Result, Ok, Err}
use Rattle.json.specs.Json.{Json, Items}
use Rattle.json.specs.Find.{as_array}
use Rattle.script_engine.specs.declared.fault.ScriptFault.{ScriptFault}
use Rattle.script_engine.specs.Lines.{has_line_end}
use Rattle.line_reader.specs.Lines.{AreLines, joined}
use Rattle.journal_core.specs.Journal.{is_sum}
use Rattle.journal_core.specs.Places.{is_confirmed, place_after}
use Rattle.journal_core.specs.Sealing.{IsSeal, IsSealedPart}
use Rattle.journal_core.specs.Wrong.{wrong_at}
use Rattle.journal_tasks.specs.Asking.{ask_body, asked_items}
use Rattle.journal_tasks.specs.Comparing.{compared_text, wrong_compared}
use Rattle.journal_tasks.specs.Confirming.{confirm_text, is_not_found, is_without_sums}
use Rattle.journal_tasks.specs.Conflicting.{conflicts_text}
use Rattle.journal_tasks.specs.Counting.{wrong_line}
use Rattle.journal_tasks.specs.Diffing.{diff_text}
use Rattle.journal_tasks.specs.Lists.{is_wrong, leaves_in}
use Rattle.journal_tasks.specs.Missing.{missing_in_input, missing_text, wrong_diffed}
use Rattle.journal_tasks.specs.Naming.{name_lines}
use Rattle.journal_tasks.specs.Receiving.{lacks_any, passed_on, received_text, wrong_received}
use Rattle.journal_tasks.specs.Selecting.{Choice, first_copy, is_copy_damaged, is_copy_other, lacks_chosen, second_copy, selected_text}
use Rattle.journal_tasks.specs.Splitting.{complete_text, parts_text, unended_line}
use Rattle.journal_tasks.specs.Stating.{is_damaged, place_of, states_text, wrong_in}
use Rattle.journal_responses.specs.Infos.{info_text, is_info}
use Rattle.journal_responses.specs.Pages.{page_in}
use Rattle.journal_responses.specs.Refusals.{any_refused, refused_text}
use Rattle.journal_responses.specs.Responses.{IsOther, IsSaid, IsUnread, response_in}
use Rattle.journal_responses.specs.declared.said.Said.{Said}
use Rattle.couch_journal.specs.declared.ended.Outcome.{Outcome}
use Rattle.couch_journal.specs.declared.ended.Outcome.TheVariants as outcomes
use Rattle.couch_journal.specs.declared.ended.Ended.{Ended}
use Rattle.couch_journal.specs.declared.ended.Ended.TheVariants.{NotRun, Ran}
use Rattle.couch_journal.specs.declared.options.Options.{Options}
use Rattle.couch_journal.specs.declared.run.Response.{Response}
use Rattle.couch_journal.specs.declared.run.Response.TheVariants.{Page, Refused, Info}
use Rattle.couch_journal.specs.declared.tasks.Task.{Task}
use Rattle.couch_journal.specs.declared.tasks.Task.TheVariants as tasks
use Rattle.couch_journal.specs.Options.{Refuses, Says}
use Rattle.couch_journal.specs.Status.{confirm_outcome, damaged_or, differs_or, missing_or_done, other_or_done, unflushed, wrong_or}
use Rattle.couch_journal.specs.Tasks.{IsTaskOf, IsTaskless}
use Rattle.couch_journal.specs.declared.options.NoTask.{NoTask}
use Rattle.couch_journal.specs.declared.options.NoTask.TheVariants.{Words, Unknown, Memory}

-- ---- the tasks on responses

-- The JSON value j is the response that the task reads. The task prints `text`, and `refused` is true exactly if the
-- response says that a document was rejected.
abbrev pub Shows : Response → Json → List ℕ → Bool → Type 0
Shows (Page several) j text refused = (page_in several j ≡ Some text) × (refused ≡ false)
Shows Refused j text refused =
    (entries : Items) × (as_array j ≡ Some entries) × (text ≡ refused_text entries) × (refused ≡ any_refused entries)
Shows Info j text refused = (is_info j ≡ true) × (text ≡ info_text j) × (refused ≡ false)

-- The JSON value j does not have the form of the response that the task reads.
abbrev pub ShowsNothing : Response → Json → Type 0
ShowsNothing (Page several) j = page_in several j ≡ None
ShowsNothing Refused j = as_array j ≡ None
ShowsNothing Info j = is_info j ≡ false

-- The input is the response that the task reads. The task prints `text`, and `refused` is true exactly if the response
-- says that a document was rejected.
abbrev pub IsShown : Response → List ℕ → List ℕ → Bool → Type 0
IsShown response input text refused = (j : Json) × (response_in input ≡ Some j) × Shows response j text refused

-- The reason why the input is not the response that a task reads.
abbrev pub IsNotShown : Response → List ℕ → Said → Type 0
IsNotShown response input said =
    IsUnread (response_in input) said
    ⊎ ((j : Json) × (response_in input ≡ Some j) × IsSaid j said × (IsOther said → ShowsNothing response j))

-- The output and the outcome of a task after the task has read the complete response.
abbrev pub Prints : Response → List ℕ → List ℕ → Outcome → Type 0
Prints response input text outcomes.Done = IsShown response input text false
Prints response input text outcomes.Missing = IsShown response input text true
Prints response input text (outcomes.Wrong line) = ⊥
Prints response input text (outcomes.Damaged lines) = ⊥
Prints response input text outcomes.NoSums = ⊥
Prints response input text outcomes.Differs = ⊥
Prints response input text (outcomes.Said said) = (text ≡ []) × IsNotShown response input said

-- The effect of running a task on a response. After an error, the output is empty, or it is a prefix of the output for
-- the complete input. The statement `ended` says that the input was read to its end.
abbrev pub RunsResponse : Response → Type 0 → List ℕ → List ℕ → Result Outcome ScriptFault → Type 0
RunsResponse response ended input text (Ok outcome) = ended × Prints response input text outcome
RunsResponse response ended input text (Err fault) =
    (text ≡ []) ⊎ (ended × ((rest : List ℕ) × (refused : Bool) × IsShown response input (text ++ rest) refused))

-- ---- `seal`

-- The output and the outcome of the task `seal`. If every line of the input may be in a block, the output is the line
-- that ends a block of exactly these lines. If a block cannot contain a line of the input, the output is empty. The
-- outcome `Wrong` has the number of the first line that a block cannot contain, counted from 1.
abbrev pub Seals : List ℕ → List ℕ → List ℕ → List ℕ → Outcome → Type 0
Seals chain seq input text outcomes.Done = IsSeal chain seq input text
Seals chain seq input text (outcomes.Wrong line) =
    (text ≡ []) × ((lines : List (List ℕ)) × (rest : List ℕ) × AreLines input lines rest
    × (option_map suc (wrong_at is_sum lines rest) ≡ Some line))
Seals chain seq input text other = ⊥

-- How the output and the result of the task `seal` depend on the task's input. After an error, the output is empty, or
-- it is a prefix of the output for the complete input.
abbrev pub RunsSeal : List ℕ → List ℕ → Type 0 → List ℕ → List ℕ → Result Outcome ScriptFault → Type 0
RunsSeal chain seq ended input text (Ok outcome) = ended × Seals chain seq input text outcome
RunsSeal chain seq ended input text (Err fault) = (text ≡ []) ⊎ (ended × IsSealedPart chain seq input text)

-- ---- the tasks on lines

-- The effect of running a task that reads its input line by line. The function `prints` gives the text that the task
-- prints before the end of the input. If the task does not fail, its output is the value of `output`, and its result is
-- the value of `outcome`. If the task fails, the output is a prefix of the text that `prints` gives for the input's
-- first n lines, for some number n. A task that fails after it has read the end of its input may have written any
-- prefix of its complete output.
abbrev pub RunsLines : (List (List ℕ) → List ℕ) → (List (List ℕ) → List ℕ → List ℕ) → (List (List ℕ) → List ℕ → Outcome)
    → Type 0 → List ℕ → List ℕ → Result Outcome ScriptFault → Type 0
RunsLines prints output outcome ended input text (Ok result) =
    ended × ((lines : List (List ℕ)) × (rest : List ℕ) × AreLines input lines rest × (text ≡ output lines rest)
    × (result ≡ outcome lines rest))
RunsLines prints output outcome ended input text (Err fault) =
    ((lines : List (List ℕ)) × (rest back : List ℕ) × (input ≡ joined lines ++ rest)
    × All (λ line. has_line_end line ≡ false) lines × (text ++ back ≡ prints lines))
    ⊎ (ended × ((lines : List (List ℕ)) × (rest back : List ℕ) × AreLines input lines rest × (text ++ back ≡ output lines rest)))

-- The effect of running the task `ask`: its output is the request for the leaves that the input lists.
abbrev pub RunsAsk : Type 0 → List ℕ → List ℕ → Result Outcome ScriptFault → Type 0
RunsAsk ended input text result =
    RunsLines (λ lines. asked_items false (leaves_in lines)) (λ lines rest. ask_body (leaves_in lines))
    (λ lines rest. wrong_or (wrong_line is_wrong lines rest) outcomes.Done) ended input text result

-- The effect of running the task `received`. If `only` is false, the output begins with the lines of the response that
-- have requested documents. If no line of the input is wrong, the output ends with the lines that `told_in` gives for
-- the request. If `only` is true, each line that `told_in` gives lists only leaves that were not received. If no line
-- of the input is wrong, the outcome says whether a requested revision was not received.
abbrev pub RunsReceived : Bool → Type 0 → List ℕ → List ℕ → Result Outcome ScriptFault → Type 0
RunsReceived only ended input text result =
    RunsLines (passed_on only) (received_text only)
    (λ lines rest. wrong_or (wrong_received lines rest) (missing_or_done (lacks_any lines))) ended input text result

-- The effect of running the task `diff`: its output is the `_revs_diff` request for the documents that the input lists,
-- or empty if a line of the input is wrong.
abbrev pub RunsDiff : Type 0 → List ℕ → List ℕ → Result Outcome ScriptFault → Type 0
RunsDiff ended input text result =
    RunsLines (λ lines. []) diff_text (λ lines rest. wrong_or (wrong_line is_wrong lines rest) outcomes.Done) ended input text result

-- The effect of running the task `lacking`. The input has a list of documents, and may have a response. If the response
-- names missing leaves of a listed document, the output has a line for this document. If a line of the list is wrong,
-- the output is empty. If no line of the list is wrong, the outcome says whether the response has a wrong form or is
-- absent.
abbrev pub RunsLacking : Type 0 → List ℕ → List ℕ → Result Outcome ScriptFault → Type 0
RunsLacking ended input text result =
    RunsLines (λ lines. []) missing_text
    (λ lines rest. wrong_or (wrong_diffed lines rest) (other_or_done (is_none (missing_in_input lines rest)))) ended input text result

-- The effect of running the task `compare`: its output is the leaves that only the second list of the input has. If
-- `documents` is true, the output of the task `compare` is the documents that only the input's second list names.
abbrev pub RunsCompare : Bool → Type 0 → List ℕ → List ℕ → Result Outcome ScriptFault → Type 0
RunsCompare documents ended input text result =
    RunsLines (compared_text documents) (λ lines rest. compared_text documents lines)
    (λ lines rest. wrong_or (wrong_compared lines rest) outcomes.Done) ended input text result

-- The effect of running the task `parts`: its output is the parts into which the input's lines are split. The pair
-- `limit` has the maximum numbers of bytes and of lines in a part, which only a part of one line may exceed.
abbrev pub RunsParts : ℕ × ℕ → Type 0 → List ℕ → List ℕ → Result Outcome ScriptFault → Type 0
RunsParts limit ended input text result =
    RunsLines (complete_text limit) (parts_text limit) (λ lines rest. wrong_or (unended_line lines rest) outcomes.Done) ended input text result

-- The effect of running the task `name`: its output is a line for each leaf that the input lists. Each line of the
-- output begins with `word`.
abbrev pub RunsName : List ℕ → Type 0 → List ℕ → List ℕ → Result Outcome ScriptFault → Type 0
RunsName word ended input text result =
    RunsLines (λ lines. name_lines word (leaves_in lines)) (λ lines rest. name_lines word (leaves_in lines))
    (λ lines rest. wrong_or (wrong_line is_wrong lines rest) outcomes.Done) ended input text result

-- The effect of running the task `states`: its output is the last state of each document of the journal. If the journal
-- is damaged, or a line of the journal is wrong, the output is empty. If `unverified` is true, the checksums of the
-- journal are ignored.
abbrev pub RunsStates : Bool → Type 0 → List ℕ → List ℕ → Result Outcome ScriptFault → Type 0
RunsStates unverified ended input text result =
    RunsLines (λ lines. []) (states_text unverified)
    (λ lines rest. damaged_or (is_damaged unverified lines rest) (length (place_of unverified lines).confirmed)
    (wrong_or (wrong_in lines rest) outcomes.Done)) ended input text result

-- The effect of running the task `confirm`: its output is the report about the confirmed part of the journal. If a
-- sequence `at` is given, the report is about the part up to the last block with this sequence.
abbrev pub RunsConfirm : Option (List ℕ) → Type 0 → List ℕ → List ℕ → Result Outcome ScriptFault → Type 0
RunsConfirm at ended input text result =
    RunsLines (λ lines. []) (λ lines rest. confirm_text at lines)
    (λ lines rest. confirm_outcome (is_not_found at lines) (is_some at || nat_eq (length rest) 0 && is_confirmed (place_after lines))
    (is_without_sums lines rest) (length (place_after lines).confirmed)) ended input text result

-- The arguments and options of the task `select` for a journal of `size` bytes.
abbrev pub choice_in : ℕ → Options → Choice
choice_in size o =
    record { size = size; several = o.several; only = option_map (λ id. id.now) o.doc; unverified = o.unverified }

-- The outcome of the task `select` for the two copies `first` and `second` of a journal.
abbrev pub select_outcome : Choice → List (List ℕ) → List (List ℕ) → List ℕ → Outcome
select_outcome choice first second rest =
    damaged_or (is_copy_damaged choice first) (length (place_of choice.unverified first).confirmed)
    (wrong_or (wrong_in first []) (differs_or (is_copy_other first second rest) (missing_or_done (lacks_chosen choice first))))

-- The effect of running the task `select` on two copies of a journal. For each leaf in the last state of a selected
-- document, the output has the last line of the journal that has this leaf. If the first copy is damaged, or one of its
-- lines is wrong, the output is empty.
abbrev pub RunsSelect : Choice → Type 0 → List ℕ → List ℕ → Result Outcome ScriptFault → Type 0
RunsSelect choice ended input text result =
    RunsLines (selected_text choice) (λ lines rest. selected_text choice lines)
    (λ lines rest. select_outcome choice (first_copy choice.size lines) (second_copy choice.size lines) rest) ended input text result

-- The effect of running the task `conflicts`: its output is the documents in conflict that the input lists, with the
-- leaves of each of these documents. If a line of the input is wrong, the output is empty.
abbrev pub RunsConflicts : Type 0 → List ℕ → List ℕ → Result Outcome ScriptFault → Type 0
RunsConflicts ended input text result =
    RunsLines (λ lines. []) conflicts_text (λ lines rest. wrong_or (wrong_line is_wrong lines rest) outcomes.Done) ended input text result

-- ---- the tasks

-- How the output and the result of a task depend on the task's input.
abbrev pub RunsTask : Task → Options → Type 0 → List ℕ → List ℕ → Result Outcome ScriptFault → Type 0
RunsTask (tasks.Page several) o ended input text result = RunsResponse (Page several) ended input text result
RunsTask tasks.Refused o ended input text result = RunsResponse Refused ended input text result
RunsTask tasks.Info o ended input text result = RunsResponse Info ended input text result
RunsTask (tasks.Seal chain seq) o ended input text result = RunsSeal chain.now seq.now ended input text result
RunsTask tasks.Ask o ended input text result = RunsAsk ended input text result
RunsTask (tasks.Received only) o ended input text result = RunsReceived only ended input text result
RunsTask tasks.Diff o ended input text result = RunsDiff ended input text result
RunsTask tasks.Lacking o ended input text result = RunsLacking ended input text result
RunsTask (tasks.Compare documents) o ended input text result = RunsCompare documents ended input text result
RunsTask (tasks.Parts bytes lines) o ended input text result = RunsParts (bytes, lines) ended input text result
RunsTask (tasks.Name word) o ended input text result = RunsName word.now ended input text result
RunsTask (tasks.States unverified) o ended input text result = RunsStates unverified ended input text result
RunsTask (tasks.Select size) o ended input text result = RunsSelect (choice_in size o) ended input text result
RunsTask (tasks.Confirm at) o ended input text result = RunsConfirm (option_map (λ s. s.now) at) ended input text result
RunsTask tasks.Conflicts o ended input text result = RunsConflicts ended input text result

-- ---- the program

-- The reason why the arguments name no task.
abbrev pub NamesNoTask : List (List ℕ) → NoTask → Type 0
NamesNoTask words (Words error) = Refuses words (Words error)
NamesNoTask words Unknown = (o : Options) × Says words o × IsTaskless o
NamesNoTask words Memory = Unit {0}

-- What the program reads and writes for a command line, whose first argument is the program's name. If the arguments
-- name no task, the program reads and writes no byte.
abbrev pub RunsWords : List (List ℕ) → Type 0 → List ℕ → List ℕ → Ended → Type 0
RunsWords words ended input text (NotRun why) = (input ≡ []) × (text ≡ []) × NamesNoTask words why
RunsWords words ended input text (Ran result) =
    (o : Options) × (task : Task) × Says words o × IsTaskOf o task × RunsTask task o ended input text result

-- A run of the program on its standard streams. The argument `words` is the command line, and `all` is the statement
-- that the reads reached the end of the input. The argument `input` has the bytes that the reads returned, and `text`
-- has the bytes that the output has accepted. The argument `ended` says how the run ended. If the last output of a run
-- cannot be flushed, a part of this output is missing, and the run ends as `unflushed` says.
abbrev pub RunsStandard : List (List ℕ) → Type 0 → List ℕ → List ℕ → Ended → Type 0
RunsStandard words all input text ended =
    (first : Ended) × (rest : List ℕ) × RunsWords words all input (text ++ rest) first
    × (((rest ≡ []) × (ended ≡ first)) ⊎ (ended ≡ unflushed first))
