-- Defines the part of a command's output that is not yet printed, as specified in docs/PROFILE.md, "Answers".
use Rattle.std.specs.Prelude.{ℕ, List, Option, Result, Ok, Err}
use Rattle.script_engine.specs.Serving.{Told, text_with}
use Rattle.script_databases.specs.Databases.{State}
use Rattle.script_databases.specs.Refusals.{name_of}
use Rattle.script_databases.specs.declared.refusal.Refusal.{Refusal}
use Rattle.read_commands.specs.Compare.{compare_left, FitsCompare}
use Rattle.read_commands.specs.Conflicts.{conflicts_left, FitsConflicts}
use Rattle.read_commands.specs.Docs.{docs_left}
use Rattle.read_commands.specs.declared.rest.Rest.{Rest}
use Rattle.read_commands.specs.declared.rest.Rest.TheVariants.{Compare, Conflicts, Docs}

-- The text that a command has not yet printed, computed from state s.
abbrev pub rest_left : State → Rest → List ℕ
rest_left s (Compare r) = compare_left s r.value
rest_left s (Conflicts r) = conflicts_left s r.value
rest_left s (Docs r) = docs_left s r.value

-- In the state s of the databases, the command's totals so far count exactly the feed rows that the command has
-- processed. The command `docs` computes no totals.
abbrev pub FitsRest : State → Rest → Type 0
FitsRest s (Compare r) = FitsCompare s r.value
FitsRest s (Conflicts r) = FitsConflicts s r.value
FitsRest s (Docs r) = Unit {0}

-- The result of a line that has printed nothing yet: the complete output, or the name of the error.
abbrev pub told_from : State → Result Rest Refusal → Told
told_from s (Ok rest) = Ok (rest_left s rest)
told_from s (Err refusal) = Err (name_of refusal)

-- The result of a line that has already printed the text `text`. If the line succeeds, its result is `text`, followed
-- by the remaining output. If the line fails, its result is the name of the error.
abbrev pub told_begun : State → Result (Option Rest) Refusal → List ℕ → Told
told_begun s (Ok rest) text = Ok (text_with (rest_left s) text rest)
told_begun s (Err refusal) text = Err (name_of refusal)
