use Rattle.journal_lines.specs.Entries.{entry_view}
use Rattle.journal_tasks.proofs.{conflict_line}
use Rattle.journal_tasks.proofs.conflicts.ConflictsLineTask.line.Goals as goal

pub returns : goal.returns
returns c = λ lines text k.
    conflict_line lines text c.args.line.now _ c.args.self.now _ c.add.new.self c.in_ok-right.right (entry_view c.in_ok-entry.entry) c.in_ok-entry.ensures k c.in_ok-add.ensures c.in_ok-right.ensures.right c.in_ok-right.ensures.docs c.check.ensures c.requires.empty
