use Rattle.proof_prelude.proofs.{◌≡◌, ◌<◌, ℕ, zero, suc, ap, length, subst, take, refl, arith, err_from_is_err_and, Appends, Appends-nil}
use Rattle.script_engine.specs.declared.fault.ScriptFault.TheVariants.{Memory}
use Rattle.response_parser.specs.{front_of, state_of}
use Rattle.response_output.specs.{part_text, words_of_wording, WritesInPart}
use Rattle.response_output.proofs.{Begins-nothing, Begins-run, Feeds-run, Tracks-kept, run_fed}
use Rattle.response_output.proofs.run.feed_some.Goals as goal

some : (n : ℕ) → (n ≡ 0 → ⊥) → 0 < n
some zero f = absurd (f refl)
some (suc n) f = omega arith

pub returns-in-Ok-clause-ok : goal.returns-in-Ok-clause-ok
returns-in-Ok-clause-ok g c = λ s part t.
    let n = c.in_ok-count.count in
    let run = take n c.args.bytes.now in
    let put = subst (λ l. Appends (g.W.ScriptWrite.held c.args.writer.now) (g.W.ScriptWrite.held c.tell_run.new.writer) (part_text (words_of_wording c.args.wording.now) (front_of c.pass.new.self) (length l) run)) c.text-told.ensures c.in-Ok.ensures.written in
    Feeds-run (run_fed run t (c.in_ok-count.ensures.passes (some n c.if-count-eq0.false))) put c.in-Ok.ensures.words

pub returns-in-Err-clause-err : goal.returns-in-Err-clause-err
returns-in-Err-clause-err g c = λ s part t.
    let n = c.in_ok-count.count in
    let run = take n c.args.bytes.now in
    let put = subst (λ l. WritesInPart c.in-Err.fault (part_text (words_of_wording c.args.wording.now) (front_of c.pass.new.self) (length l) run) (g.W.ScriptWrite.held c.args.writer.now) (g.W.ScriptWrite.held c.tell_run.new.writer)) c.text-told.ensures c.in-Err.ensures.err in
    Begins-run c.in-Err.fault n c.args.bytes.now t (run_fed run t (c.in_ok-count.ensures.passes (some n c.if-count-eq0.false))) put

pub returns-in_err-count-clause-err : goal.returns-in_err-count-clause-err
returns-in_err-count-clause-err g c = λ s part t.
    let p = err_from_is_err_and c.from_residual.result c.from_residual.ensures.1 in
    let held = g.W.ScriptWrite.held c.args.writer.now in
    rw (p.1, p.2) (Begins-nothing Memory c.args.bytes.now held held t (Appends-nil held) refl)

pub returns-then-count-eq0-clause-ok : goal.returns-then-count-eq0-clause-ok
returns-then-count-eq0-clause-ok g c = λ s part t.
    let same = c.in_ok-count.ensures.none c.if-count-eq0.true in
    c.feed_part.ensures.ok s part (Tracks-kept t same.0 same.1 same.2)

pub returns-then-count-eq0-clause-err : goal.returns-then-count-eq0-clause-err
returns-then-count-eq0-clause-err g c = λ s part t.
    let same = c.in_ok-count.ensures.none c.if-count-eq0.true in
    c.feed_part.ensures.err s part (Tracks-kept t same.0 same.1 same.2)
