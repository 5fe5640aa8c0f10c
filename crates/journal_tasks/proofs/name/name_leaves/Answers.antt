use Rattle.proof_prelude.proofs.{string_bytes}
use Rattle.journal_tasks.specs.Naming.{HasNamed, IsNaming}
use Rattle.journal_tasks.proofs.{done_for, stopped_for}
use Rattle.journal_tasks.proofs.name.name_leaves.Goals as goal

pub returns-clause-took : goal.returns-clause-took
returns-clause-took g c = done_for IsNaming HasNamed (string_bytes c.args.word) c.new-task.result c.run_task.new.task _ _ _ _ c.in-Ok.ensures.took c.new-task.ensures

pub returns-in-Err-clause-stopped : goal.returns-in-Err-clause-stopped
returns-in-Err-clause-stopped g c = stopped_for IsNaming HasNamed (string_bytes c.args.word) c.new-task.result _ _ _ _ _ c.in-Err.ensures.stopped c.new-task.ensures
