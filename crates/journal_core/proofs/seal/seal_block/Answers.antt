use Rattle.proof_prelude.proofs.{[], inl, refl, Appends-nil}
use Rattle.line_reader.proofs.{on_err}
use Rattle.journal_core.proofs.{has_sealed, part_sealed, sealed}
use Rattle.journal_core.proofs.seal.seal_block.Goals as goal

pub returns-clause-seals : goal.returns-clause-seals
returns-clause-seals g c = sealed c.args.chain.now c.args.seq.now c.in_ok-task.task c.run_task.new.task _ _ _ c.wrong.result c.in_ok-task.ensures c.wrong.ensures c.in-Ok.ensures.ok

pub returns-clause-took : goal.returns-clause-took
returns-clause-took g c = has_sealed c.args.chain.now c.args.seq.now c.in_ok-task.task c.run_task.new.task _ _ _ _ c.wrong.result c.in_ok-task.ensures c.wrong.ensures c.in-Ok.ensures.took

pub returns-in-Err-clause-stopped : goal.returns-in-Err-clause-stopped
returns-in-Err-clause-stopped g c = part_sealed c.args.chain.now c.args.seq.now c.in_ok-task.task _ _ _ _ _ c.in_ok-task.ensures c.in-Err.ensures.stopped

pub returns-in_err-task-clause-stopped : goal.returns-in_err-task-clause-stopped
returns-in_err-task-clause-stopped g c =
    on_err c.from_residual.result ([], [], Appends-nil (g.R.ScriptRead.taken c.args.reader.now), Appends-nil (g.W.ScriptWrite.held c.args.writer.now), inl refl)
