use Rattle.proof_prelude.proofs.{◌++◌, ◌∷◌, [], ◌≡◌, rules, sym, append_assoc}
use Rattle.line_reader.proofs.{HasRun-cut, HasRun-line, HasRun-stopped, on_err}
use Rattle.line_reader.proofs.run.end_line.Goals as goal

pub returns-clause-ok : goal.returns-clause-ok
returns-clause-ok g c = λ start held taken h. HasRun-line c.as_slice.result.now c.line.new.text.items c.as_slice-2.result.now c.line.new.self c.clear-2.new.self.items (g.W.ScriptWrite.held c.write_all.new.writer) h c.as_slice.ensures.value c.in_ok-line.ensures c.as_slice-2.ensures.value (search rules) c.in-Ok.ensures.ok.0

pub returns-in_err-line-clause-err : goal.returns-in_err-line-clause-err
returns-in_err-line-clause-err g c =
    on_err c.from_residual.result (λ start held taken more h. HasRun-stopped g.T.LineTask.ends (10 ∷ more) (λ input. input ≡ (taken ++ 10 ∷ []) ++ more) (sym (append_assoc taken (10 ∷ []) more)) h)

pub returns-in-Err-clause-err : goal.returns-in-Err-clause-err
returns-in-Err-clause-err g c = λ start held taken more h.
    let e = c.in-Err.ensures.err in
    HasRun-cut g.T.LineTask.ends c.as_slice.result.now c.line.new.text.items c.as_slice-2.result.now e.0 e.1 more c.line.new.self (g.W.ScriptWrite.held c.write_all.new.writer) h c.as_slice.ensures.value c.in_ok-line.ensures c.as_slice-2.ensures.value e.2 e.3
