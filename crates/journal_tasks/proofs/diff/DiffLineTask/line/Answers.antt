use Rattle.journal_lines.specs.Entries.{entry_view}
use Rattle.journal_tasks.proofs.{diff_line}
use Rattle.journal_tasks.proofs.diff.DiffLineTask.line.Goals as goal

pub returns : goal.returns
returns c = λ lines text k.
    diff_line lines text c.args.line.now _ c.args.self.now _ c.add.new.self c.in_ok-right.right (entry_view c.in_ok-entry.entry) c.in_ok-entry.ensures k c.in_ok-add.ensures c.in_ok-right.ensures.right c.in_ok-right.ensures.docs c.check.ensures c.requires.empty
