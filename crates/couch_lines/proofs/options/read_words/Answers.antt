use Rattle.proof_prelude.proofs.{ap, refl, subst, subst₂, ◌≡◌, ◌∙◌, true, map, string_bytes, List, ℕ, codes, Result, Ok, Err, IfOk, IfErr}
use Rattle.clap.specs.Words.{HasKind, fault_of, is_simple_and_free}
use Rattle.clap.proofs.OnLiterals.{clap_on_literals}
use Rattle.cli_common.specs.{IsFound}
use Rattle.couch_lines.specs.{command_line, SaysBy, RefusesBy, Refused, Refuses, Task, NoTask}
use Rattle.couch_lines.specs.declared.options.NoTask.TheVariants.{Words, Unknown, Wrong, Memory}
use Rattle.couch_lines.proofs.options.read_words.Goals as goal

line_free : is_simple_and_free command_line ≡ true
unfolding clap_on_literals
line_free = refl

nothing_said : (words : List (List ℕ)) (x : Result Task NoTask) → IfErr x (Refused words) → IfErr x (Refuses words)
nothing_said words (Ok task) h = tt
nothing_said words (Err (Words error)) h = absurd h.4
nothing_said words (Err Unknown) h = h
nothing_said words (Err (Wrong n)) h = h
nothing_said words (Err Memory) h = tt

pub find-requires : goal.find-requires
find-requires c = record { free = ap is_simple_and_free c.in_ok-command.ensures ∙ line_free }

pub returns-in-Ok-clause-ok : goal.returns-in-Ok-clause-ok
returns-in-Ok-clause-ok c =
    let words = map string_bytes c.args.words.now in
    let found = subst (λ a. IsFound a words c.in-Ok.matches) c.in_ok-command.ensures c.in-Ok.ensures.ok in
    subst₂ (λ text flag. IfOk c.task_said.result (SaysBy text (flag (codes "whole")) (flag (codes "svg")))) found.0 found.1 c.task_said.ensures.ok

pub returns-in-Ok-clause-err : goal.returns-in-Ok-clause-err
returns-in-Ok-clause-err c =
    let words = map string_bytes c.args.words.now in
    let found = subst (λ a. IsFound a words c.in-Ok.matches) c.in_ok-command.ensures c.in-Ok.ensures.ok in
    nothing_said words c.task_said.result
    (subst₂ (λ text flag. IfErr c.task_said.result (RefusesBy text (flag (codes "whole")) (flag (codes "svg")))) found.0 found.1 c.task_said.ensures.err)

pub returns-in-Err-clause-err : goal.returns-in-Err-clause-err
returns-in-Err-clause-err c =
    subst (λ a. HasKind (fault_of a (map string_bytes c.args.words.now)) c.in-Err.error) c.in_ok-command.ensures c.in-Err.ensures.err
