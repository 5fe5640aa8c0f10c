use Rattle.line_reader.proofs.{on_ok}
use Rattle.journal_tasks.proofs.{compare_early}
use Rattle.journal_tasks.proofs.compare.CompareLineTask.end.Goals as goal

pub returns : goal.returns
returns c =
    on_ok c.end_early.result (λ w. λ documents lines text k. compare_early documents lines text c.args.rest.now _ c.args.self.now _ k c.if-self.false w c.requires.empty) c.end_early.ensures
