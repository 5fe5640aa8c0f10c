use Rattle.proof_prelude.proofs.{map, string_bytes, subst₂}
use Rattle.couch_relay.specs.declared.options.Options.{Options}
use Rattle.couch_relay.specs.Options.{AreGiven}
use Rattle.couch_relay.proofs.Running.{words_ran, words_refused}
use Rattle.couch_relay.proofs.run.run_words.Goals as goal

pub returns-in-Ok-options_of-clause-runs : goal.returns-in-Ok-options_of-clause-runs
returns-in-Ok-options_of-clause-runs g c =
    let found = c.in-Ok.ensures.ok in
    let says = subst₂ (λ text number. AreGiven text number c.in-Ok-options_of.options) found.0 found.1 c.in-Ok-options_of.ensures.ok in
    words_ran (map string_bytes c.args.words.now) c.in-Ok-options_of.options _ _ _ _ _ c.run.result says c.run.ensures.ok c.run.ensures.err

pub returns-clause-runs : goal.returns-clause-runs
returns-clause-runs g c =
    let found = c.in-Ok.ensures.ok in
    let e = c.in-Err-options_of.ensures.err in
    words_refused (map string_bytes c.args.words.now) (g.R.ScriptRead.ended c.args.reader.now) _ _ c.in-Err-options_of.why e.0
    (subst₂ (λ text number. (o : Options) → AreGiven text number o → ⊥) found.0 found.1 e.1)
