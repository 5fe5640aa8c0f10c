use Rattle.proof_prelude.proofs.{◌≡◌, ◌++◌, ◌∷◌, [], ◌+◌, ◌-◌, length, take, drop, sym, ap, ◌∙◌, append_assoc}
use Rattle.script_engine.proofs.{rest-open, stretch-open}
use Rattle.line_reader.proofs.{HasRun-begun, HasRun-same, HasRun-stopped, IsStopped-given, after_line, on_err, regroup}
use Rattle.line_reader.proofs.run.feed.Goals as goal

pub loop-end-preserved : goal.loop-end-preserved
loop-end-preserved g c =
    let i = c.loop-end.invariant in
    let rest = c.loop-end.rest.now in
    let piece = take c.in-Some.end rest in (
      i.0 ++ (piece ++ 10 ∷ []),
      after_line c.args.bytes.now i.0 rest c.in-Some.end c.in-Some.ensures i.1,
      λ start held taken h. HasRun-same (taken ++ (i.0 ++ (piece ++ 10 ∷ []))) (regroup taken i.0 piece)
          (c.in-Ok.ensures.ok start held ((taken ++ i.0) ++ piece) (HasRun-begun piece c.take_in.new.progress.begun.items (i.2 start held taken h) (stretch-open rest c.in-Some.end c.in-Some.ensures) c.in_ok-take_in.ensures)),
      c.in-Ok.ensures.counted ∙ i.3,
    )

pub returns-clause-ok : goal.returns-clause-ok
returns-clause-ok g c =
    let i = c.loop-end.invariant in
    let rest = c.loop-end.rest.now in
    λ start held taken h. HasRun-same (taken ++ c.args.bytes.now) (append_assoc taken i.0 rest ∙ ap (λ z. taken ++ z) (sym i.1))
    (HasRun-begun rest c.take_in-2.new.progress.begun.items (i.2 start held taken h) (rest-open rest c.in_default.ensures) c.in_ok-take_in-2.ensures)

pub returns-in_err-take_in-clause-err : goal.returns-in_err-take_in-clause-err
returns-in_err-take_in-clause-err g c =
    let i = c.loop-end.invariant in
    let rest = c.loop-end.rest.now in
    on_err c.from_residual.result
    (λ start held taken h. HasRun-stopped g.T.LineTask.ends rest (λ input. input ≡ taken ++ c.args.bytes.now) (append_assoc taken i.0 rest ∙ ap (λ z. taken ++ z) (sym i.1)) (i.2 start held taken h))

pub returns-in_err-take_in-2-clause-err : goal.returns-in_err-take_in-2-clause-err
returns-in_err-take_in-2-clause-err g c =
    let i = c.loop-end.invariant in
    let rest = c.loop-end.rest.now in
    on_err c.from_residual-in_err-take_in-2.result
    (λ start held taken h. HasRun-stopped g.T.LineTask.ends rest (λ input. input ≡ taken ++ c.args.bytes.now) (append_assoc taken i.0 rest ∙ ap (λ z. taken ++ z) (sym i.1)) (i.2 start held taken h))

pub returns-in-Err-clause-err : goal.returns-in-Err-clause-err
returns-in-Err-clause-err g c =
    let i = c.loop-end.invariant in
    let rest = c.loop-end.rest.now in
    let piece = take c.in-Some.end rest in
    let more = take (length rest - (c.in-Some.end + 1)) (drop (c.in-Some.end + 1) rest) in
    λ start held taken h. IsStopped-given (λ input. input ≡ taken ++ c.args.bytes.now)
    (ap (λ z. z ++ more) (regroup taken i.0 piece) ∙ append_assoc taken (i.0 ++ (piece ++ 10 ∷ [])) more ∙ ap (λ z. taken ++ z) (sym (after_line c.args.bytes.now i.0 rest c.in-Some.end c.in-Some.ensures i.1)))
    (c.in-Err.ensures.err start held ((taken ++ i.0) ++ piece) more
    (HasRun-begun piece c.take_in.new.progress.begun.items (i.2 start held taken h) (stretch-open rest c.in-Some.end c.in-Some.ensures) c.in_ok-take_in.ensures))
