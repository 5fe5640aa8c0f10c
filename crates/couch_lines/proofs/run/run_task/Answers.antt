use Rattle.proof_prelude.proofs.{Some, ap, ◌∙◌}
use Rattle.response_parser.specs.State.{State}
use Rattle.response_output.specs.{words_of_wording}
use Rattle.couch_lines.proofs.{done_took, is_done, makes, run_counts}
use Rattle.couch_lines.proofs.run.run_task.Goals as goal

pub returns-clause-done : goal.returns-clause-done
returns-clause-done g c =
    is_done (g.R.ScriptRead.left c.args.reader.now) (g.W.ScriptWrite.held c.args.writer.now) (g.W.ScriptWrite.held c.run_answers-ended.new.writer) c.run_answers-ended.result c.args.task.now c.new-reading.result.wanted (words_of_wording c.args.wording)
    (ap (λ (s : State). s.wanted) c.new-reading.ensures ∙ c.wanted_of.ensures) c.requires.words (c.run_answers-ended.ensures.ok, c.run_answers-ended.ensures.fault)

pub returns-clause-makes : goal.returns-clause-makes
returns-clause-makes g c =
    makes (g.R.ScriptRead.left c.args.reader.now) (g.W.ScriptWrite.held c.args.writer.now) (g.W.ScriptWrite.held c.run_answers-ended.new.writer) c.run_answers-ended.result c.args.task.now c.new-reading.result.wanted (words_of_wording c.args.wording)
    c.requires.lines (ap (λ (s : State). s.wanted) c.new-reading.ensures ∙ c.wanted_of.ensures) c.requires.words c.run_answers-ended.ensures.forms c.run_answers-ended.ensures.script c.run_answers-ended.ensures.changes c.run_answers-ended.ensures.leaves

pub returns-clause-counts : goal.returns-clause-counts
returns-clause-counts g c = run_counts c.run_answers-ended.result _ _ _ _ _ _ c.run_answers-ended.ensures.counted c.run_answers-ended.ensures.counts

pub returns-clause-took : goal.returns-clause-took
returns-clause-took g c =
    let t = c.run_answers-ended.ensures.took in
    let d =
    done_took (Some t.0) (g.W.ScriptWrite.held c.args.writer.now) (g.W.ScriptWrite.held c.run_answers-ended.new.writer) c.run_answers-ended.result c.args.task.now c.new-reading.result.wanted (words_of_wording c.args.wording)
    c.requires.lines (ap (λ (s : State). s.wanted) c.new-reading.ensures ∙ c.wanted_of.ensures) c.requires.words t.2 in
    (t.0, t.1, d.0, d.1)
