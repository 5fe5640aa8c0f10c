use Rattle.proof_prelude.proofs.{◌≡◌, ℕ, List, sym, subst, IfOk, IfErr, Appends, Consumes}
use Rattle.script_engine.specs.{AnswersEnded, IsAnswered}
use Rattle.script_engine.specs.declared.fault.ScriptFault.TheVariants.{Read}
use Rattle.script_databases.specs.{State}
use Rattle.commands.specs.{TrustedLines}
use Rattle.commands.proofs.interpreter.run_on.Goals as goal

pub returns-clause-took : goal.returns-clause-took
returns-clause-took g c =
    let R = g.R.ScriptRead in
    let W = g.W.ScriptWrite in
    let new = c.run_lines-ended.new in
    subst (λ (s : State). IfOk c.run_lines-ended.result (λ clean. (input : List ℕ) × (text : List ℕ) × Appends (R.taken c.args.reader.now) (R.taken new.reader) input × Appends (W.held c.args.writer.now) (W.held new.writer) text × IsAnswered TrustedLines c.args.databases input clean text s)) (sym c.interpreter.view_is) c.run_lines-ended.ensures.took

pub returns-clause-read : goal.returns-clause-read
returns-clause-read g c =
    let R = g.R.ScriptRead in
    let W = g.W.ScriptWrite in
    let new = c.run_lines-ended.new in
    subst (λ (s : State). IfErr c.run_lines-ended.result (λ fault. fault ≡ Read → (input : List ℕ) × (text : List ℕ) × Consumes (R.left c.args.reader.now) (R.left new.reader) input × Appends (W.held c.args.writer.now) (W.held new.writer) text × AnswersEnded TrustedLines c.args.databases input text s)) (sym c.interpreter.view_is) c.run_lines-ended.ensures.read

pub returns-clause-took_in : goal.returns-clause-took_in
returns-clause-took_in g c =
    let R = g.R.ScriptRead in
    let W = g.W.ScriptWrite in
    let new = c.run_lines-ended.new in
    subst (λ (s : State). IfErr c.run_lines-ended.result (λ fault. fault ≡ Read → (input : List ℕ) × (text : List ℕ) × Appends (R.taken c.args.reader.now) (R.taken new.reader) input × Appends (W.held c.args.writer.now) (W.held new.writer) text × AnswersEnded TrustedLines c.args.databases input text s)) (sym c.interpreter.view_is) c.run_lines-ended.ensures.took_in
