use Rattle.proof_prelude.proofs.{refl}
use Rattle.journal_lines.specs.Entries.{entry_view}
use Rattle.journal_tasks.proofs.{compare_first}
use Rattle.journal_tasks.proofs.compare.Compare.first_line.Goals as goal

pub returns : goal.returns
returns c = λ documents lines text k.
    compare_first documents lines text c.args.line.now c.args.self.now _ c.add.new.self c.in_ok-right.right (entry_view c.in_ok-entry.entry) k c.requires.part c.requires.line c.in_ok-entry.ensures c.in_ok-add.ensures c.in_ok-right.ensures.right c.check.ensures refl refl c.in_ok-right.ensures.ids c.in_ok-right.ensures.leaves
