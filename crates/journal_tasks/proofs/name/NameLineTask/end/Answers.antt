use Rattle.journal_tasks.proofs.{named_end}
use Rattle.journal_tasks.proofs.name.NameLineTask.end.Goals as goal

pub returns : goal.returns
returns c = λ word lines text k. named_end word lines text c.args.rest.now _ c.args.self.now _ k c.in_ok-end.ensures c.requires.empty
