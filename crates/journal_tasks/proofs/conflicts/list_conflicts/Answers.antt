use Rattle.line_reader.proofs.{done_by, stopped_by}
use Rattle.journal_tasks.specs.Conflicting.{HasConflicts, IsConflicting}
use Rattle.journal_tasks.proofs.conflicts.list_conflicts.Goals as goal

pub returns-clause-took : goal.returns-clause-took
returns-clause-took g c = done_by IsConflicting HasConflicts c.new-task.result c.run_task.new.task _ _ _ _ c.in-Ok.ensures.took c.new-task.ensures

pub returns-in-Err-clause-stopped : goal.returns-in-Err-clause-stopped
returns-in-Err-clause-stopped g c = stopped_by IsConflicting HasConflicts c.new-task.result _ _ _ _ _ c.in-Err.ensures.stopped c.new-task.ensures
