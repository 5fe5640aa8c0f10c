use Rattle.proof_prelude.proofs.{inr, option_map}
use Rattle.journal_tasks.specs.Confirming.{HasConfirmed, IsConfirming}
use Rattle.journal_tasks.proofs.{done_for, stopped_for}
use Rattle.journal_tasks.proofs.confirm.confirm_journal.Goals as goal

pub returns-clause-took : goal.returns-clause-took
returns-clause-took g c = done_for IsConfirming HasConfirmed (option_map (λ at. at.now) c.args.at) c.in_ok-task.task c.run_task.new.task _ _ _ _ c.in-Ok.ensures.took c.in_ok-task.ensures

pub returns-in-Err-clause-stopped : goal.returns-in-Err-clause-stopped
returns-in-Err-clause-stopped g c = let t = stopped_for IsConfirming HasConfirmed (option_map (λ at. at.now) c.args.at) c.in_ok-task.task _ _ _ _ _ c.in-Err.ensures.stopped c.in_ok-task.ensures in (t.0, t.1, t.2, t.3, inr t.4)
