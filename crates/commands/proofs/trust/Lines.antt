-- The results of a line between consistent databases have their guarantees, and are results of the line.
use Rattle.proof_prelude.proofs.{inl, inr, sym, ℕ, Bool, List, [], ◌∷◌, Result, Ok, Err}
use Rattle.serde_json.specs.Data.{object}
use Rattle.script_engine.specs.{AnswersCut, AnswersFirst, IsAnswered, IsAnsweredSoFar, Run, Step, blank, served, IsToldUntil, Told, ScriptFault}
use Rattle.script_engine.specs.declared.fault.ScriptFault.TheVariants.{Cut, Memory, Read, Write}
use Rattle.script_databases.specs.{IsConsistent, State, Refusal}
use Rattle.command_api.proofs.{may_tell}
use Rattle.commands.specs.{AnswersAsked, Asks, LinesAnswer, Asked, TrustedLines}
use Rattle.commands.proofs.trust.Words.{IsTurned, in_turned, words_trusted}

asks_turned : (line : List ℕ) (ask : Asked) → Asks line (Ok ask) → IsTurned ask
asks_turned line ask (inl (ms, is, e)) = in_turned (object ms) ask (sym e)
asks_turned line ask (inr (none, e)) = cc

pub line_trusted : (old new : State) → IsConsistent old → IsConsistent new → (line : List ℕ) (told : Told) → LinesAnswer old line told new → TrustedLines old line told new
line_trusted old new h h' line told (asked, asks, answers) = go asked asks answers
  where
    go : (r : Result Asked Refusal) → Asks line r → AnswersAsked old r told new → TrustedLines old line told new
    go (Ok ask) k d = (Ok ask, k, d, h, h', words_trusted old new h h' ask (asks_turned line ask k) told d)
    go (Err refusal) k d = (Err refusal, k, d, h, h', tt)

-- ---- without the guarantees

step_known : (old new : State) (line : List ℕ) (told : Told) → Step TrustedLines old line told new → Step LinesAnswer old line told new
step_known old new line told (blank b) = blank b
step_known old new line told (served full m) = served full (may_tell (λ t a. (a.0, a.1, a.2)) m)

run_known : (lines : List (List ℕ)) (told : List Told) (old new : State) → Run TrustedLines old lines told new → Run LinesAnswer old lines told new
run_known [] [] old new e = e
run_known [] (t ∷ more) old new r = absurd r
run_known (line ∷ lines) [] old new r = absurd r
run_known (line ∷ lines) (t ∷ more) old new (mid, step, rest) = (mid, step_known old mid line t step, run_known lines more mid new rest)

pub answered_known : (old : State) (input : List ℕ) (clean : Bool) (text : List ℕ) (new : State) → IsAnswered TrustedLines old input clean text new → IsAnswered LinesAnswer old input clean text new
answered_known old input clean text new (told, run, is, ok) = (told, run_known _ told old new run, is, ok)

so_far_known : (old : State) (input text : List ℕ) → IsAnsweredSoFar TrustedLines old input text → IsAnsweredSoFar LinesAnswer old input text
so_far_known old input text (clean, rest, new, answered) = (clean, rest, new, answered_known old input clean _ new answered)

first_known : (old : State) (input text : List ℕ) → AnswersFirst TrustedLines old input text → AnswersFirst LinesAnswer old input text
first_known old input text (lines, rest, told, new, cut, run, is) = (lines, rest, told, new, cut, run_known lines told old new run, is)

cut_known : (old : State) (input text : List ℕ) → AnswersCut TrustedLines old input text → AnswersCut LinesAnswer old input text
cut_known old input text (lines, line, rest, told, mid, begun, more, new, cut, run, step, is, some, left) =
    (lines, line, rest, told, mid, begun, more, new, cut, run_known lines told old mid run, step_known mid new line _ step, is, some, left)

pub until_known : (fault : ScriptFault) (old : State) (input text : List ℕ) → IsToldUntil fault TrustedLines old input text → IsToldUntil fault LinesAnswer old input text
until_known Read old input text t = (so_far_known old input text t.0, first_known old input text t.1)
until_known Write old input text t = so_far_known old input text t
until_known Memory old input text t = (so_far_known old input text t.0, first_known old input text t.1)
until_known Cut old input text t = (so_far_known old input text t.0, cut_known old input text t.1)
