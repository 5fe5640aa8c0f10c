use Rattle.journal_tasks.proofs.{line_put}
use Rattle.journal_tasks.proofs.lacks.put.Goals as goal

pub returns : goal.returns
returns c =
    line_put c.args.lines.now.entries c.remove.new.lines.entries c.insert.new.self.entries c.in_ok-key.key c.in_ok-line.line c.args.id.now c.args.line.now c.remove.ensures c.in_ok-key.ensures.ok c.in_ok-line.ensures.items c.in_ok-insert.ensures.entries
