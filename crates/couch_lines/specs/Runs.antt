-- Defines the runs of the program `couch_lines` with any reader and any writer, as specified in docs/PROFILE.md,
-- "CouchDB's answers".
use Rattle.std.specs.Prelude.{◌≡◌, ◌⊎◌, ◌++◌, [], ℕ, List, OnOk, Bool, true, false, Option, Some, Result, Ok, Err, String, string_bytes, option_map, ⊤}
use Rattle.std.specs.declared.alloc.Global.{Global}
use Rattle.response_parser.specs.Reading.{Piece}
use Rattle.response_parser.specs.Grammar.{IsAnswered}
use Rattle.response_parser.specs.LineGrammar.{IsScript}
use Rattle.response_parser.specs.ChangeGrammar.{IsChangeScript}
use Rattle.response_parser.specs.FeedGrammar.{AreLeaves}
use Rattle.response_parser.specs.declared.place.Wanted.{Wanted}
use Rattle.response_parser.specs.declared.place.Wanted.TheVariants.{Documents, Enveloped, Bodies, Unfolded, Leaves as InFeed, Changes}
use Rattle.response_output.specs.Words.{Words, loads_of, asked_of, diffs_of, docs_of, bodies_of}
use Rattle.response_output.specs.Runs.{Converts, CountsOf, ReadsAnswers}
use Rattle.response_output.specs.declared.run.AnswerFault.{AnswerFault}
use Rattle.script_engine.specs.Faults.{IsFaultOf}
use Rattle.script_engine.specs.declared.fault.ScriptFault.{ScriptFault}
use Rattle.diagrams.specs.Drawing.{PicturedBy}
use Rattle.diagrams.specs.declared.form.Form.{Form}
use Rattle.diagrams.specs.declared.tally.Outcome.{Outcome}
use Rattle.diagrams.specs.declared.form.Form.TheVariants.{Text, Svg}
use Rattle.couch_lines.specs.Tasks.{Says, Refuses}
use Rattle.couch_lines.specs.Status.{unflushed}
use Rattle.couch_lines.specs.declared.tasks.Task.{Task}
use Rattle.couch_lines.specs.declared.tasks.Task.TheVariants.{Load, Ids, Diff, Leaves, Bulk, Trees}
use Rattle.couch_lines.specs.declared.run.Ended.{Ended}
use Rattle.couch_lines.specs.declared.run.Ended.TheVariants.{NotRun, Ran, Drawn}

-- The kind of items, such as documents, that a task of `couch_lines` reads from its input.
abbrev pub wanted_of : Task → Wanted
wanted_of (Load db false) = Documents
wanted_of (Load db true) = Enveloped
wanted_of (Ids n) = InFeed
wanted_of (Diff n) = InFeed
wanted_of (Leaves db) = Changes
wanted_of (Bulk n false) = Bodies
wanted_of (Bulk n true) = Unfolded
wanted_of (Trees db svg) = Documents

-- The formatter that writes the output of a task.
abbrev pub words_of_task : Task → Words
words_of_task (Load db whole) = loads_of (string_bytes db)
words_of_task (Ids n) = asked_of n
words_of_task (Diff n) = diffs_of n
words_of_task (Leaves db) = docs_of (string_bytes db)
words_of_task (Bulk n whole) = bodies_of n
words_of_task (Trees db svg) = bodies_of 0

-- Whether a task draws a picture instead of converting its input.
abbrev pub is_drawn : Task → Bool
is_drawn (Trees db svg) = true
is_drawn task = false

-- The format of a picture, which is SVG if the flag `--svg` is given.
abbrev pub form_of : Bool → Form
form_of true = Svg
form_of false = Text

-- A run of the task `task` of `couch_lines` had the result `result`. The bytes `left` remained in the reader before the
-- run. The writer had accepted the bytes `held` before the run, and `held'` after the run.
abbrev pub IsDone : Task → Option (List ℕ) → Option (List ℕ) → Option (List ℕ) → Result ℕ AnswerFault → Type 0
IsDone task left held held' result = Converts result (wanted_of task) (words_of_task task) left held held'

-- What a task of `couch_lines` guarantees if the task's input has the form that the task expects. A `load` task writes
-- a `load` line for each document in CouchDB responses, in order, with the document's text or envelope. The tasks `ids`
-- and `diff` read a response, and write each leaf of the response into a request body. The task `bulk` reads the output
-- of a script, and writes the documents of this output into request bodies. The task `leaves` reads the output of a
-- script, and writes a `doc` line for each leaf in the changes of this output. A task does not reject input of the
-- expected form. If a task returns an error, the writer may have only a part of the task's output (`ReadsAnswers`).
abbrev pub Makes : Task → Option (List ℕ) → Option (List ℕ) → Option (List ℕ) → Result ℕ AnswerFault → Type 0
Makes (Load db whole) left held held' result = (answers : List ℕ) → (documents : List Piece) → left ≡ Some answers
    → IsAnswered (wanted_of (Load db whole)) answers documents → ReadsAnswers (loads_of (string_bytes db)) documents held held' result
Makes (Ids n) left held held' result = (response : List ℕ) → (leaves : List Piece) → left ≡ Some response
    → AreLeaves response leaves → ReadsAnswers (asked_of n) leaves held held' result
Makes (Diff n) left held held' result = (response : List ℕ) → (leaves : List Piece) → left ≡ Some response
    → AreLeaves response leaves → ReadsAnswers (diffs_of n) leaves held held' result
Makes (Leaves db) left held held' result = (answers : List ℕ) → (changes : List Piece) → left ≡ Some answers
    → IsChangeScript answers changes → ReadsAnswers (docs_of (string_bytes db)) changes held held' result
Makes (Bulk n whole) left held held' result = (answers : List ℕ) → (documents : List Piece) → left ≡ Some answers
    → IsScript (wanted_of (Bulk n whole)) answers documents → ReadsAnswers (bodies_of n) documents held held' result
Makes (Trees db svg) left held held' result = ⊥

-- What a run of `couch_lines` reads and writes, depending on the command line `words` and on how the run ended. If the
-- command line names no task, or an allocation fails before the task starts, the run reads and writes no byte. If a run
-- starts a task, the command line names this task. Only the task `trees` draws a picture.
abbrev pub RunsWords : List (List ℕ) → Option (List ℕ) → Option (List ℕ) → Option (List ℕ) → Option (List ℕ) → Ended → Type 0
RunsWords words left left' held held' (NotRun why) = Refuses words why × (left' ≡ left) × (held' ≡ held)
RunsWords words left left' held held' (Ran run) =
    (task : Task) × Says words task × IsDone task left held held' run.ended × Makes task left held held' run.ended
RunsWords words left left' held held' (Drawn ended) =
    (db : Option (String Global)) × (svg : Bool) × Says words (Trees db svg)
    × PicturedBy ended (form_of svg) (option_map string_bytes db) left held held'

-- The reader failed exactly if the run's error is `Read`, and the writer failed exactly if the run's error is `Write`.
-- As an exception, the error `Read` may also mean that the maximum number of reads was reached. The numeric arguments
-- of `RunCounts` are counts before and after the run: of the reads, of the reader's failures, and of the writer's
-- failures.
abbrev pub RunCounts : Result ℕ AnswerFault → ℕ → ℕ → ℕ → ℕ → ℕ → ℕ → Type 0
RunCounts (Ok passed) reads reads' reader reader' writer writer' = (reader' ≡ reader) × (writer' ≡ writer)
RunCounts (Err fault) reads reads' reader reader' writer writer' = CountsOf fault reads reads' reader reader' writer writer'

abbrev pub DrawnCounts : Result Outcome ScriptFault → ℕ → ℕ → ℕ → ℕ → ℕ → ℕ → Type 0
DrawnCounts (Ok drawn) reads reads' reader reader' writer writer' = (reader' ≡ reader) × (writer' ≡ writer)
DrawnCounts (Err fault) reads reads' reader reader' writer writer' = IsFaultOf fault reads reads' reader reader' writer writer'

abbrev pub EndedCounts : Ended → ℕ → ℕ → ℕ → ℕ → ℕ → ℕ → Type 0
EndedCounts (NotRun why) reads reads' reader reader' writer writer' =
    (reads' ≡ reads) × (reader' ≡ reader) × (writer' ≡ writer)
EndedCounts (Ran run) reads reads' reader reader' writer writer' = RunCounts run.ended reads reads' reader reader' writer writer'
EndedCounts (Drawn ended) reads reads' reader reader' writer writer' = DrawnCounts ended reads reads' reader reader' writer writer'

-- If a run ended with success, the statement `holds` is true.
abbrev pub IfDone : Ended → Type 0 → Type 0
IfDone (NotRun why) holds = ⊤
IfDone (Ran run) holds = OnOk run.ended holds
IfDone (Drawn ended) holds = OnOk ended holds

-- A run of the program `couch_lines` on its standard streams, with the command line `words`. The reads returned the
-- bytes `input`, the output has accepted the bytes `text`, and `ended` is the result of the run. If the task succeeded,
-- the statement `all` is true: the reads reached the end of the input. If the last output of a run cannot be flushed, a
-- part of this output may be missing, and `unflushed` determines the result of the run.
abbrev pub RunsStandard : List (List ℕ) → List ℕ → Type 0 → List ℕ → Ended → Type 0
RunsStandard words input all text ended =
    (first : Ended) × (rest : List ℕ) × RunsWords words (Some input) (Some []) (Some []) (Some (text ++ rest)) first
    × IfDone first all × (((rest ≡ []) × (ended ≡ first)) ⊎ (ended ≡ unflushed first))
