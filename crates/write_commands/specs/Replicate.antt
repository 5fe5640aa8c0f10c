-- Defines the command `replicate`, as specified in docs/PROFILE.md, "Command lines", "Order of checks" and "Answers".
use Rattle.std.specs.Prelude.{◌≡◌, ◌⊎◌, ◌<◌, ◌≤◌, ℕ, Bool, true, false, List, [], ◌∷◌, ◌++◌, codes, decimal, Option, Some, None, unwrap_or, option_map, Result, Ok, Err}
use Rattle.serde_json.specs.Data.{Data}
use Rattle.serde_json.specs.Find.{as_bool}
use Rattle.json_values.specs.LineView.{line_items}
use Rattle.doc_json.specs.Chosen.{Choice}
use Rattle.rev_tree.specs.declared.origin.SessionId.{SessionId}
use Rattle.repl_log.specs.Text.{id_digits}
use Rattle.pool_workers.specs.declared.fault.PoolFault.{PoolFault}
use Rattle.repl_peer.specs.peer.Peer.{PeerValue}
use Rattle.repl_peer.specs.declared.fault.Report.{Report}
use Rattle.repl_peer.specs.declared.fault.TargetFault.{TargetFault}
use Rattle.repl_target.specs.declared.replication.Plan.{Plan}
use Rattle.script_engine.specs.Serving.{Told, Answering}
use Rattle.script_databases.specs.Consistent.{AccountsUpTo, CoversUpTo}
use Rattle.script_databases.specs.Replications.{ReplicatesAlone, ReplicatesByPool, ReplicatesWatched}
use Rattle.script_databases.specs.Databases.{Program, State, drawn_one, next_made}
use Rattle.script_databases.specs.Refusals.{GivesOrMemory, name_of, run_stop_of, stop_of}
use Rattle.script_databases.specs.declared.watched.Watched.{Watched}
use Rattle.script_databases.specs.declared.refusal.Refusal.{Refusal}
use Rattle.script_databases.specs.declared.refusal.Refusal.TheVariants as why
use Rattle.rev_core.specs.Checks.{◌>>=◌}
use Rattle.command_api.specs.Checks.{needed}
use Rattle.command_api.specs.Given.{choice_given}
use Rattle.command_api.specs.Members.{as_texts, as_uuid, as_whole, name_at, optional, texts_of, if_only}
use Rattle.command_api.specs.Telling.{database_of, told_of, Refuses}
use Rattle.command_api.specs.Texts.{ended}
use Rattle.write_commands.specs.Failing.{Fails}
use Rattle.write_commands.specs.declared.replicate.Ending.{Ending}
use Rattle.write_commands.specs.declared.replicate.Ending.TheVariants.{Done, Shown, Stopped}
use Rattle.write_commands.specs.declared.replicate.Options.{Options}
use Rattle.write_commands.specs.declared.replicate.Replicate.{Replicate}

-- ---- its parameters

-- The parameters of `replicate`, which replicates from one database to another, for a selection of documents.
pub record ReplicateAsk : Type 0 where
  pub source : List ℕ
  pub target : List ℕ
  pub doc_ids : Option (List (List ℕ))
  pub options : Options

abbrev pub replicate_asked : Replicate → ReplicateAsk
replicate_asked ask = record {
  source = ask.source.now;
  target = ask.target.now;
  doc_ids = option_map (λ v. texts_of (line_items v.now)) ask.doc_ids;
  options = ask.options;
}

-- The optional parameters of a `replicate` line. An absent parameter is `None`, but `alone` and `progress` are false if
-- absent.
abbrev pub options_in : Data → Result Options Refusal
options_in d = do
  session ← needed (optional as_uuid (codes "session") d)
  workers ← needed (optional as_whole (codes "workers") d)
  batch ← needed (optional as_whole (codes "batch") d)
  at ← needed (optional as_whole (codes "at") d)
  stop_after ← needed (optional as_whole (codes "stop_after") d)
  alone ← needed (optional as_bool (codes "alone") d)
  progress ← needed (optional as_bool (codes "progress") d)
  Ok (record {
    session = session;
    workers = workers;
    batch = batch;
    at = at;
    stop_after = stop_after;
    alone = unwrap_or alone false;
    progress = unwrap_or progress false;
  })

abbrev pub replicate_keys : List (List ℕ)
replicate_keys =
    codes "do" ∷ codes "source" ∷ codes "target" ∷ codes "doc_ids" ∷ codes "session" ∷ codes "workers" ∷ codes "batch"
    ∷ codes "at" ∷ codes "stop_after" ∷ codes "alone" ∷ codes "progress" ∷ []

abbrev pub replicate_in : Data → Result ReplicateAsk Refusal
replicate_in d = do
  source ← needed (name_at (codes "source") d)
  target ← needed (name_at (codes "target") d)
  doc_ids ← needed (optional as_texts (codes "doc_ids") d)
  options ← options_in d
  needed (if_only replicate_keys d (record {
    source = source;
    target = target;
    doc_ids = doc_ids;
    options = options;
  }))

-- ---- its output

-- The part of the output of `replicate` that has a report's session id, start sequence and recorded sequence.
abbrev pub session_part : Report → List ℕ
session_part r =
    codes "session " ++ id_digits r.session.0 ++ codes " from " ++ decimal r.start ++ codes " to " ++ decimal r.recorded

-- The part of the output of `replicate` with two numbers: how many leaves were checked, and how many of these the
-- target lacked.
abbrev pub checked_part : Report → List ℕ
checked_part r = codes " checked " ++ decimal r.counts.checked ++ codes " found " ++ decimal r.counts.found

-- The part of the output of `replicate` that has the numbers of documents that were read, written and refused.
abbrev pub documents_part : Report → List ℕ
documents_part r =
    codes " read " ++ decimal r.counts.read ++ codes " written " ++ decimal r.counts.written ++ codes " failed " ++ decimal r.counts.failures

-- The output line of `replicate` with the report of a session.
abbrev pub report_line : Report → List ℕ
report_line r = ended (session_part r ++ checked_part r ++ documents_part r)

-- The output line of `replicate` with the board's counts of settled and of read documents.
abbrev pub progress_line : Watched → List ℕ
progress_line w = ended (codes "progress " ++ decimal w.settled ++ codes " of " ++ decimal w.read)

-- The output line of `replicate` with the low water of a session that ended below the session's goal.
abbrev pub stopped_line : SessionId → ℕ → List ℕ
stopped_line session low_water = ended (codes "stopped " ++ id_digits session.0 ++ codes " at " ++ decimal low_water)

abbrev pub ending_line : SessionId → Ending → List ℕ
ending_line session (Done report) = report_line report
ending_line session (Shown watched) = progress_line watched ++ report_line watched.report
ending_line session (Stopped low_water) = stopped_line session low_water

-- ---- its plan

-- The last valid timestamp, at the end of the year 9999.
abbrev pub last_second : ℕ
last_second = 253402300799

-- The timestamp of a `replicate` line, or the program's timestamp if the line gives no timestamp.
abbrev pub moment_of : Program → Options → ℕ
moment_of program options = unwrap_or options.at program.at

-- The session id that a `replicate` line gives, or the next generated id.
abbrev pub session_of : State → Options → ℕ
session_of s options = unwrap_or options.session (next_made s)

abbrev pub with_drawn : State → Option ℕ → State
with_drawn s (Some given) = s
with_drawn s None = drawn_one s

abbrev pub with_session : State → Options → State
with_session s options = with_drawn s options.session

-- The plan of a replication, with the program's settings for absent parameters.
abbrev pub plan_with : Program → Options → ℕ → Choice → Plan
plan_with program options session chosen = record {
  session = record { 0 = session };
  workers = unwrap_or options.workers program.workers;
  batch = unwrap_or options.batch program.batch;
  stop_after = options.stop_after;
  at = moment_of program options;
  chosen = chosen;
}

-- The plan of a `replicate` line.
abbrev pub plan_of : State → Options → Choice → Plan
plan_of s options chosen = plan_with s.program options (session_of s options) chosen

-- ---- its result

-- How a replication by one thread ended, or the error with which it failed. A replication by one thread has not failed
-- if it returned `Unfinished`.
abbrev pub ending_of : Result Report TargetFault → Result Ending Refusal
ending_of (Ok report) = Ok (Done report)
ending_of (Err fault) = do
  low_water ← stop_of fault
  Ok (Stopped low_water)

-- How a replication by the pool ended, or the error with which it failed. A replication by the pool has not failed if
-- the replication returned `Unfinished`.
abbrev pub ending_of_run : Result Report PoolFault → Result Ending Refusal
ending_of_run (Ok report) = Ok (Done report)
ending_of_run (Err fault) = do
  low_water ← run_stop_of fault
  Ok (Stopped low_water)

-- How a replication by the pool ended, or the error with which it failed. The replication used a progress board.
abbrev pub ending_of_watched : Result Watched PoolFault → Result Ending Refusal
ending_of_watched (Ok watched) = Ok (Shown watched)
ending_of_watched (Err fault) = ending_of_run (Err fault)

-- How a replication ended, or the error with which it failed. `EndsBy true` describes a replication by one thread.
-- `EndsBy false true` describes a replication by the pool with a board. `EndsBy false false` describes a replication by
-- the pool without a board.
abbrev pub EndsBy : Bool → Bool → State → List ℕ → List ℕ → PeerValue → PeerValue → Plan → Result Ending Refusal → State
    → Type 0
EndsBy true progress old source target s t plan ending new =
    (result : Result Report TargetFault) × ReplicatesAlone old source target s t plan result new
    × (ending ≡ ending_of result)
EndsBy false true old source target s t plan ending new =
    (result : Result Watched PoolFault) × ReplicatesWatched old source target s t plan result new
    × (ending ≡ ending_of_watched result)
EndsBy false false old source target s t plan ending new =
    (result : Result Report PoolFault) × ReplicatesByPool old source target s t plan result new
    × (ending ≡ ending_of_run result)

abbrev pub replicated_text : SessionId → Result Ending Refusal → Result (List ℕ) Refusal
replicated_text session ended = do
  ending ← ended
  Ok (ending_line session ending)

-- The result of a `replicate` line between two existing databases. The fourth argument is the line's selection of
-- documents, or an error if the selection could not be built.
abbrev pub ReplicatesChosen : State → ReplicateAsk → PeerValue × PeerValue → Result Choice Refusal → Told → State
    → Type 0
ReplicatesChosen old ask both (Ok chosen) told new =
    (last_second < moment_of old.program ask.options) × Refuses why.BadMoment (with_session old ask.options) told new
    ⊎ (moment_of old.program ask.options ≤ last_second) × (ending : Result Ending Refusal)
    × EndsBy ask.options.alone ask.options.progress (with_session old ask.options) ask.source ask.target both.0 both.1
    (plan_of old ask.options chosen) ending new
    × (told ≡ told_of (replicated_text (plan_of old ask.options chosen).session ending))
ReplicatesChosen old ask both (Err refusal) told new = Refuses refusal (with_session old ask.options) told new

-- The result of `replicate` for two existing databases. A line without a session id takes the next generated id before
-- the selection is built. Building the selection may run out of memory.
abbrev pub ReplicatesBoth : State → ReplicateAsk → PeerValue × PeerValue → Told → State → Type 0
ReplicatesBoth old ask both told new =
    (chosen : Result Choice Refusal) × GivesOrMemory chosen (choice_given ask.doc_ids)
    × ReplicatesChosen old ask both chosen told new

abbrev pub ReplicatesFound : State → ReplicateAsk → Result (PeerValue × PeerValue) Refusal → Told → State → Type 0
ReplicatesFound old ask (Ok both) told new = ReplicatesBoth old ask both told new
ReplicatesFound old ask (Err refusal) told new = Refuses refusal old told new

abbrev pub both_of : State → ReplicateAsk → Result (PeerValue × PeerValue) Refusal
both_of s ask = do
  source ← database_of s ask.source
  target ← database_of s ask.target
  Ok (source, target)

abbrev pub ReportsReplication : Answering State ReplicateAsk
ReportsReplication old ask told new = ReplicatesFound old ask (both_of old ask) told new

-- ---- the guarantee of `replicate`, as specified in docs/PROFILE.md, "Tied databases"

-- The guarantee for a session that reached its goal and recorded a sequence. The recorded sequence is the source's
-- update sequence. The target covers each leaf of the source's selected feed (`CoversUpTo`), and accounts for each such
-- leaf (`AccountsUpTo`).
abbrev pub CoversIfDone : State → List ℕ → List ℕ → Choice → Ending → Type 0
CoversIfDone s source target chosen (Done report) =
    CoversUpTo s source target chosen report.recorded × AccountsUpTo s source target chosen report.recorded
CoversIfDone s source target chosen (Shown watched) =
    CoversUpTo s source target chosen watched.report.recorded
    × AccountsUpTo s source target chosen watched.report.recorded
CoversIfDone s source target chosen (Stopped low_water) = Unit {0}

-- With one thread, a session stops below its goal only if the line has `stop_after`.
abbrev pub StopsIfAsked : Options → Ending → Type 0
StopsIfAsked options (Stopped low_water) = options.alone ≡ true → (most : ℕ) × (options.stop_after ≡ Some most)
StopsIfAsked options ending = Unit {0}

-- A `replicate` line may fail with `NoDatabase`, `BadMoment`, the error of an invalid selection, or an error that
-- `Fails` lists. `Fails` also lists `Memory`.
abbrev pub MayFail : ReplicateAsk → Refusal → Type 0
MayFail ask refusal =
    (refusal ≡ why.NoDatabase) ⊎ (refusal ≡ why.BadMoment) ⊎ (choice_given ask.doc_ids ≡ Err refusal)
    ⊎ Fails ask.options.alone ask.options.progress refusal

-- The guarantee for a `replicate` line that printed `text`, with the line's session id, ending and selection.
abbrev pub IsCoveredBy : State → ReplicateAsk → List ℕ → SessionId → Ending → Choice → Type 0
IsCoveredBy s ask text session ending chosen =
    (text ≡ ending_line session ending) × (choice_given ask.doc_ids ≡ Ok chosen)
    × CoversIfDone s ask.source ask.target chosen ending × StopsIfAsked ask.options ending

-- Whether the session of a `replicate` line reached its goal. If the session did, the line printed `session`.
abbrev pub IsDone : Ending → Type 0
IsDone (Stopped low_water) = ⊥
IsDone ending = Unit {0}

-- The guarantee for a `replicate` line. A `replicate` line that succeeds prints an ending that satisfies `CoversIfDone`
-- and `StopsIfAsked`. A `replicate` line that fails has an error that `MayFail` lists.
abbrev pub IsCovered : State → ReplicateAsk → Told → Type 0
IsCovered s ask (Ok text) =
    (session : SessionId) × (ending : Ending) × (chosen : Choice) × IsCoveredBy s ask text session ending chosen
IsCovered s ask (Err name) = (refusal : Refusal) × (name ≡ name_of refusal) × MayFail ask refusal
