use Rattle.proof_prelude.proofs.{◌≢◌, [], ◌∷◌, ap, ◌∙◌, sym, append-nil, length, Appends-nil, nil_from_length}
use Rattle.script_engine.specs.{lines_of}
use Rattle.script_engine.proofs.{Served-none, lines_of-ended}
use Rattle.script_engine.proofs.lines.last_line.Goals as goal

pub returns-then-begun-eq0-clause-ok : goal.returns-then-begun-eq0-clause-ok
returns-then-begun-eq0-clause-ok g c =
    let none = nil_from_length c.args.script.now.begun.items (sym c.args.script.now.begun.ok.0 ∙ sym c.len-begun.ensures ∙ c.if-begun-eq0.true) in
    ([], ap lines_of (append-nil c.args.script.now.begun.items), none, ([], Served-none _, Appends-nil _))

pub returns-in-Err-clause-err : goal.returns-in-Err-clause-err
returns-in-Err-clause-err g c =
    let some : c.args.script.now.begun.items ≢ [] = λ e. c.if-begun-eq0.false (c.len-begun.ensures ∙ c.args.script.now.begun.ok.0 ∙ ap length e) in
    (10 ∷ [], lines_of-ended c.args.script.now.begun.items c.requires.open some, c.in-Err.ensures.err)

pub returns-in-Ok-clause-ok : goal.returns-in-Ok-clause-ok
returns-in-Ok-clause-ok g c =
    let some : c.args.script.now.begun.items ≢ [] = λ e. c.if-begun-eq0.false (c.len-begun.ensures ∙ c.args.script.now.begun.ok.0 ∙ ap length e) in
    (10 ∷ [], lines_of-ended c.args.script.now.begun.items c.requires.open some, c.in-Ok.ensures.begun, c.in-Ok.ensures.ok)

pub returns-in-Err-clause-cut : goal.returns-in-Err-clause-cut
returns-in-Err-clause-cut g c = λ e.
    let some : c.args.script.now.begun.items ≢ [] = λ e. c.if-begun-eq0.false (c.len-begun.ensures ∙ c.args.script.now.begun.ok.0 ∙ ap length e) in
    (10 ∷ [], lines_of-ended c.args.script.now.begun.items c.requires.open some, c.in-Err.ensures.cut e)
