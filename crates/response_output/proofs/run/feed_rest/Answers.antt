use Rattle.proof_prelude.proofs.{◌≡◌, ◌∙◌, sym, subst, OnOk, IfErr}
use Rattle.response_parser.specs.{front_length_of, front_of, state_of}
use Rattle.response_output.specs.{Breaks, Feeds, words_of_wording}
use Rattle.response_output.proofs.{Feeds-none, Tracks-rest}
use Rattle.response_output.proofs.run.feed_rest.Goals as goal

pub returns-then-not-has_rest-clause-ok : goal.returns-then-not-has_rest-clause-ok
returns-then-not-has_rest-clause-ok g c = λ s part t.
    let none = Tracks-rest t (sym c.has_rest.ensures ∙ c.if-not-has_rest.true) in
    let held = g.W.ScriptWrite.held c.args.writer.now in
    let w = words_of_wording c.args.wording.now in
    subst (λ l. Feeds s w part l (state_of c.args.reading.now) (front_of c.args.front.now) (front_length_of c.args.front.now) w held held) (sym none) (Feeds-none held t)

pub returns-clause-ok : goal.returns-clause-ok
returns-clause-ok g c = λ s part t.
    let some = Tracks-rest t (sym c.has_rest.ensures ∙ c.if-not-has_rest.false) in
    subst (λ l. OnOk c.feed.result (Feeds s (words_of_wording c.args.wording.now) part l (state_of c.feed.new.reading) (front_of c.feed.new.front) (front_length_of c.feed.new.front) (words_of_wording c.feed.new.wording) (g.W.ScriptWrite.held c.args.writer.now) (g.W.ScriptWrite.held c.feed.new.writer))) (sym some)
    (c.feed.ensures.ok s part t)

pub returns-clause-err : goal.returns-clause-err
returns-clause-err g c = λ s part t.
    let some = Tracks-rest t (sym c.has_rest.ensures ∙ c.if-not-has_rest.false) in
    subst (λ l. IfErr c.feed.result (λ fault. Breaks fault s (words_of_wording c.args.wording.now) part l (g.W.ScriptWrite.held c.args.writer.now) (g.W.ScriptWrite.held c.feed.new.writer))) (sym some)
    (c.feed.ensures.err s part t)
