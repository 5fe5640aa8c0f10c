use Rattle.journal_tasks.specs.Comparing.{HasCompared, IsComparing}
use Rattle.journal_tasks.proofs.{done_for, stopped_for}
use Rattle.journal_tasks.proofs.compare.compare_lists.Goals as goal

pub returns-clause-took : goal.returns-clause-took
returns-clause-took g c = done_for IsComparing HasCompared c.args.documents c.new-task.result c.run_task.new.task _ _ _ _ c.in-Ok.ensures.took c.new-task.ensures

pub returns-in-Err-clause-stopped : goal.returns-in-Err-clause-stopped
returns-in-Err-clause-stopped g c = stopped_for IsComparing HasCompared c.args.documents c.new-task.result _ _ _ _ _ c.in-Err.ensures.stopped c.new-task.ensures
