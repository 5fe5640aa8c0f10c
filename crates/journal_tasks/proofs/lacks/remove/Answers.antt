use Rattle.journal_tasks.proofs.{line_removed}
use Rattle.journal_tasks.proofs.lacks.remove.Goals as goal

pub returns : goal.returns
returns c = line_removed c.args.lines.now.entries c.shift_remove-line.new.self.entries c.args.id.now c.shift_remove-line.ensures.entries
