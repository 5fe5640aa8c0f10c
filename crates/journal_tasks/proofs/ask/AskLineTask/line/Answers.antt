use Rattle.proof_prelude.proofs.{◌++◌, ap, ◌∙◌}
use Rattle.journal_lines.specs.Entries.{entry_view}
use Rattle.journal_tasks.specs.{asked_items, listed}
use Rattle.journal_tasks.proofs.{ask_line}
use Rattle.journal_tasks.proofs.ask.AskLineTask.line.Goals as goal

pub returns : goal.returns
returns c = λ lines text k.
    ask_line lines text c.args.line.now c.push_entry.new.text.items c.args.self.now c.push_entry.new.self c.add.new.self (entry_view c.in_ok-entry.entry) c.in_ok-entry.ensures k c.in_ok-add.ensures
    (c.in_ok-push_entry.ensures.text ∙ ap (λ z. z ++ asked_items c.args.self.now.begun (listed (entry_view c.in_ok-entry.entry))) c.requires.empty) c.in_ok-push_entry.ensures.begun c.in_ok-push_entry.ensures.count
