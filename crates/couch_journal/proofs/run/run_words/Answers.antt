use Rattle.proof_prelude.proofs.{[], map, string_bytes, refl, subst₂, Appends-nil}
use Rattle.couch_journal.specs.Options.{AreGiven}
use Rattle.couch_journal.proofs.{words_refused}
use Rattle.couch_journal.proofs.run.run_words.Goals as goal

pub returns-in-Some-clause-ran : goal.returns-in-Some-clause-ran
returns-in-Some-clause-ran g c =
    let found = c.in-Ok.ensures.ok in
    let says = subst₂ (λ text flag. AreGiven text flag c.options_of-options.result) found.0 found.1 c.options_of-options.ensures in
    let t = c.run.ensures.ran in
    (t.0, t.1, t.2, t.3, (c.options_of-options.result, c.in-Some.task, says, c.in-Some.ensures.some, t.4))

pub returns-clause-ran : goal.returns-clause-ran
returns-clause-ran g c =
    let found = c.in-Ok.ensures.ok in
    let says = subst₂ (λ text flag. AreGiven text flag c.options_of-options.result) found.0 found.1 c.options_of-options.ensures in
    ([], [], Appends-nil (g.R.ScriptRead.taken c.args.reader.now), Appends-nil (g.W.ScriptWrite.held c.args.writer.now), (refl, refl, (c.options_of-options.result, says, c.in-None.ensures.none)))

pub returns-in-Err-clause-ran : goal.returns-in-Err-clause-ran
returns-in-Err-clause-ran g c =
    ([], [], Appends-nil (g.R.ScriptRead.taken c.args.reader.now), Appends-nil (g.W.ScriptWrite.held c.args.writer.now), (refl, refl, words_refused (map string_bytes c.args.words.now) c.in-Err.why c.in-Err.ensures.err))
