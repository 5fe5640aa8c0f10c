use Rattle.proof_prelude.proofs.{◌≡◌, [], true, false, append-nil}
use Rattle.line_reader.proofs.{HasRun-cut_end, HasRun-done, HasRun-stopped, on_err}
use Rattle.line_reader.proofs.run.finish.Goals as goal

pub returns-in-Ok-clause-ok : goal.returns-in-Ok-clause-ok
returns-in-Ok-clause-ok g c = λ start held input h. HasRun-done c.as_slice.result.now c.end.new.text.items c.as_slice-2.result.now c.end.new.self (g.W.ScriptWrite.held c.write_all.new.writer) h c.as_slice.ensures.value c.in_ok-end.ensures c.as_slice-2.ensures.value c.in-Ok.ensures.ok.0

pub returns-in_err-end-clause-err : goal.returns-in_err-end-clause-err
returns-in_err-end-clause-err g c =
    on_err c.from_residual.result (λ start held input h. (false, HasRun-stopped g.T.LineTask.ends [] (λ bytes. bytes ≡ input) (append-nil input) h))

pub returns-in-Err-clause-err : goal.returns-in-Err-clause-err
returns-in-Err-clause-err g c = λ start held input h.
    let e = c.in-Err.ensures.err in
    (true, HasRun-cut_end c.as_slice.result.now c.end.new.text.items c.as_slice-2.result.now e.0 e.1 c.end.new.self (g.W.ScriptWrite.held c.write_all.new.writer) h c.as_slice.ensures.value c.in_ok-end.ensures c.as_slice-2.ensures.value e.2 e.3)
