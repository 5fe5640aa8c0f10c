use Rattle.proof_prelude.proofs.{[], Some, refl, err_from_is_err_and, Appends-nil}
use Rattle.script_engine.specs.declared.fault.ScriptFault.TheVariants.{Memory}
use Rattle.response_parser.specs.{state_of}
use Rattle.response_output.specs.{words_of_wording}
use Rattle.response_output.proofs.{Stopped-none, reads_answers, reads_changes, reads_leaves, reads_script}
use Rattle.response_output.proofs.run.run_answers.Goals as goal

pub returns-in_err-chunks-clause-fault : goal.returns-in_err-chunks-clause-fault
returns-in_err-chunks-clause-fault g c =
    let p = err_from_is_err_and c.from_residual.result c.from_residual.ensures.1 in
    rw (p.1, p.2) (Stopped-none (state_of c.args.reading.now).wanted (words_of_wording c.args.wording.now) (g.R.ScriptRead.left c.args.reader.now) (g.W.ScriptWrite.held c.args.writer.now) Memory refl)

pub returns-clause-forms : goal.returns-clause-forms
returns-clause-forms g c = λ text held docs lenient left h.
    reads_answers (state_of c.args.reading.now).wanted docs lenient (words_of_wording c.args.wording.now) (g.R.ScriptRead.left c.args.reader.now) (g.W.ScriptWrite.held c.args.writer.now) (g.W.ScriptWrite.held c.run_chunks.new.writer) c.run_chunks.result
    c.run_chunks.ensures.ok c.run_chunks.ensures.fault text held left h

pub returns-clause-script : goal.returns-clause-script
returns-clause-script g c = λ text held docs strict left h.
    reads_script (state_of c.args.reading.now).wanted docs strict (words_of_wording c.args.wording.now) (g.R.ScriptRead.left c.args.reader.now) (g.W.ScriptWrite.held c.args.writer.now) (g.W.ScriptWrite.held c.run_chunks.new.writer) c.run_chunks.result
    c.run_chunks.ensures.ok c.run_chunks.ensures.fault text held left h

pub returns-clause-changes : goal.returns-clause-changes
returns-clause-changes g c = λ text held wanted left h.
    reads_changes (state_of c.args.reading.now).wanted wanted (words_of_wording c.args.wording.now) (g.R.ScriptRead.left c.args.reader.now) (g.W.ScriptWrite.held c.args.writer.now) (g.W.ScriptWrite.held c.run_chunks.new.writer) c.run_chunks.result
    c.run_chunks.ensures.ok c.run_chunks.ensures.fault text held left h

pub returns-clause-leaves : goal.returns-clause-leaves
returns-clause-leaves g c = λ text held wanted left h.
    reads_leaves (state_of c.args.reading.now).wanted wanted (words_of_wording c.args.wording.now) (g.R.ScriptRead.left c.args.reader.now) (g.W.ScriptWrite.held c.args.writer.now) (g.W.ScriptWrite.held c.run_chunks.new.writer) c.run_chunks.result
    c.run_chunks.ensures.ok c.run_chunks.ensures.fault text held left h

pub returns-in_err-chunks-clause-took : goal.returns-in_err-chunks-clause-took
returns-in_err-chunks-clause-took g c =
    let p = err_from_is_err_and c.from_residual.result c.from_residual.ensures.1 in
    rw (p.1, p.2) ([], Appends-nil (g.R.ScriptRead.taken c.args.reader.now), Stopped-none (state_of c.args.reading.now).wanted (words_of_wording c.args.wording.now) (Some []) (g.W.ScriptWrite.held c.args.writer.now) Memory refl)
