-- Defines the result of a command, and the state after the command, as specified in docs/PROFILE.md, "Order of checks"
-- and "Answers".
use Rattle.std.specs.Prelude.{◌≡◌, ℕ, Bool, List, [], if◌then◌else◌, Result, Ok, Err}
use Rattle.repl_peer.specs.peer.Peer.{PeerValue}
use Rattle.script_engine.specs.Serving.{Told, Answering}
use Rattle.script_databases.specs.Databases.{State, peer_at}
use Rattle.script_databases.specs.Refusals.{name_of}
use Rattle.script_databases.specs.declared.refusal.Refusal.{Refusal}
use Rattle.script_databases.specs.declared.refusal.Refusal.TheVariants as why
use Rattle.rev_core.specs.Checks.{or_refused}

-- The peer that has the given database name, or `NoDatabase`.
abbrev pub database_of : State → List ℕ → Result PeerValue Refusal
database_of s name = or_refused why.NoDatabase (peer_at s name)

-- The result of a line: the output, or the name of the error.
abbrev pub told_of : Result (List ℕ) Refusal → Told
told_of (Ok text) = Ok text
told_of (Err refusal) = Err (name_of refusal)

-- A line of a script fails with the given error, and leaves the script's state unchanged.
abbrev pub Refuses : Refusal → State → Told → State → Type 0
Refuses refusal old told new = (told ≡ Err (name_of refusal)) × (new ≡ old)

-- The relation between a parsed line, the result of the line, and the script's state before and after the line. If the
-- line can be parsed, the relation `answers` defines the results for the line's parameters. If the line cannot be
-- parsed, the line fails with the error of parsing, and leaves the state unchanged.
abbrev pub AnswersIn : {L : Type 0} → Answering State L → Answering State (Result L Refusal)
AnswersIn answers old (Ok ask) told new = answers old ask told new
AnswersIn answers old (Err refusal) told new = Refuses refusal old told new

-- A line of a script has the given result, and leaves the script's state unchanged.
abbrev pub Reads : Result (List ℕ) Refusal → State → Told → State → Type 0
Reads text old told new = (told ≡ told_of text) × (new ≡ old)

-- If the given result is `Ok`, a line of a script prints the result's output and leads to the result's state. If the
-- given result is an error, the line fails with this error, and leaves the script's state unchanged.
abbrev pub Does : Result (List ℕ × State) Refusal → State → Told → State → Type 0
Does (Ok done) old told new = (told ≡ Ok done.0) × (new ≡ done.1)
Does (Err refusal) old told new = Refuses refusal old told new

-- The output of a successful line, which is empty if the program is quiet.
abbrev pub hushed : Bool → List ℕ → List ℕ
hushed quiet text = if quiet then [] else text

abbrev pub told_hushed : Bool → Told → Told
told_hushed quiet (Ok text) = Ok (hushed quiet text)
told_hushed quiet (Err name) = Err name

-- A quiet program suppresses the output of a line. If no output were suppressed, the line's result would be `loud`,
-- which the relation `answers` allows. If the program is quiet and the line succeeds, the line's result `told` is a
-- success with an empty output. If the program is not quiet, or the line fails, the line's result `told` is equal to
-- `loud`.
abbrev pub UnlessQuiet : {L : Type 0} → Answering State L → Answering State L
UnlessQuiet answers old ask told new =
    (loud : Told) × answers old ask loud new × (told ≡ told_hushed old.program.quiet loud)

-- The result of a line: the text that the call has written into a buffer, or the name of the error that the call has
-- returned.
abbrev pub told_by : {A : Type 0} → Result A Refusal → List ℕ → Told
told_by (Ok done) text = Ok text
told_by (Err refusal) text = Err (name_of refusal)
