use Rattle.proof_prelude.proofs.{◌++◌, string_bytes, refl, ap, ◌∙◌}
use Rattle.journal_lines.specs.Entries.{entry_view}
use Rattle.journal_tasks.specs.{listed, name_lines}
use Rattle.journal_tasks.proofs.{named_step}
use Rattle.journal_tasks.proofs.name.NameLineTask.line.Goals as goal

pub returns : goal.returns
returns c = λ word lines text k.
    named_step word lines text c.args.line.now _ c.args.self.now _ c.add.new.self c.in_ok-right.right (entry_view c.in_ok-entry.entry) k c.in_ok-entry.ensures c.in_ok-add.ensures c.in_ok-right.ensures.right
    (c.in_ok-right.ensures.text ∙ ap (λ z. z ++ name_lines (string_bytes c.args.self.now.word) (listed (entry_view c.in_ok-entry.entry))) c.requires.empty) refl c.check.ensures
