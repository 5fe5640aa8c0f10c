use Rattle.proof_prelude.proofs.{ap, refl, subst, subst₂, ◌≡◌, ◌∙◌, true, map, string_bytes, List, ℕ, Result, Ok, Err, IfOk, IfErr}
use Rattle.clap.specs.Words.{HasKind, fault_of, first_of, is_simple_and_free, matches_of, one_of}
use Rattle.clap.proofs.OnLiterals.{clap_on_literals}
use Rattle.cli_common.specs.{IsFound}
use Rattle.couch_replicate.specs.{options, AreOptions, Refuses, SetNothing, NoSettings}
use Rattle.couch_replicate.specs.declared.options.NoSettings.TheVariants.{Words, NoNumber, File, Memory}
use Rattle.couch_replicate.specs.declared.options.Options.{Options}
use Rattle.couch_replicate.proofs.options.read_words.Goals as goal

options_free : is_simple_and_free options ≡ true
unfolding clap_on_literals
options_free = refl

-- no settings match the arguments if none match their parsed values
nothing_said : (words : List (List ℕ)) (x : Result Options NoSettings)
    → IfErr x (SetNothing (λ id. first_of id (matches_of options words)) (λ id. one_of id (matches_of options words))) → IfErr x (Refuses words)
nothing_said words (Ok o) h = tt
nothing_said words (Err (Words error)) h = absurd h
nothing_said words (Err NoNumber) h = λ o says. h o.settings says.0
nothing_said words (Err File) h = h
nothing_said words (Err Memory) h = tt

pub find-requires : goal.find-requires
find-requires c = record { free = ap is_simple_and_free c.in_ok-command.ensures ∙ options_free }

pub returns-in-Ok-clause-ok : goal.returns-in-Ok-clause-ok
returns-in-Ok-clause-ok c =
    let found = subst (λ a. IsFound a (map string_bytes c.args.words.now) c.in-Ok.matches) c.in_ok-command.ensures c.in-Ok.ensures.ok in
    subst₂ (λ text one. IfOk c.options_of.result (AreOptions text one)) found.0 found.1 c.options_of.ensures.ok

pub returns-in-Ok-clause-err : goal.returns-in-Ok-clause-err
returns-in-Ok-clause-err c =
    let words = map string_bytes c.args.words.now in
    let found = subst (λ a. IsFound a words c.in-Ok.matches) c.in_ok-command.ensures c.in-Ok.ensures.ok in
    nothing_said words c.options_of.result (subst₂ (λ text one. IfErr c.options_of.result (SetNothing text one)) found.0 found.1 c.options_of.ensures.err)

pub returns-in-Err-clause-err : goal.returns-in-Err-clause-err
returns-in-Err-clause-err c =
    subst (λ a. HasKind (fault_of a (map string_bytes c.args.words.now)) c.in-Err.error) c.in_ok-command.ensures c.in-Err.ensures.err
