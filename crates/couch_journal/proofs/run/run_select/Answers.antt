use Rattle.couch_journal.specs.Runs.{choice_in}
use Rattle.couch_journal.proofs.{select_failed, select_ran}
use Rattle.couch_journal.proofs.run.run_select.Goals as goal

pub returns-in-Ok-clause-ran : goal.returns-in-Ok-clause-ran
returns-in-Ok-clause-ran g c = select_ran (choice_in c.args.size c.args.options.now) _ _ _ _ _ _ c.run_filtered.result (c.in-Ok.ensures.filter c.args.size) c.run_filtered.ensures.ran

pub returns-in-Err-clause-ran : goal.returns-in-Err-clause-ran
returns-in-Err-clause-ran g c =
    select_failed (choice_in c.args.size c.args.options.now) (g.R.ScriptRead.ended c.args.reader.now) (g.R.ScriptRead.taken c.args.reader.now) (g.W.ScriptWrite.held c.args.writer.now) c.in-Err.fault
