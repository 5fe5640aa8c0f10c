use Rattle.proof_prelude.proofs.{◌++◌, flat_map, is_some, refl, ap, ◌∙◌}
use Rattle.journal_lines.specs.Docs.{docs_view}
use Rattle.journal_lines.specs.Entries.{entry_view}
use Rattle.journal_tasks.specs.{compared_by, has_rev, named_leaves, revs_at}
use Rattle.journal_tasks.proofs.{compare_second}
use Rattle.journal_tasks.proofs.compare.Compare.second_line.Goals as goal

pub returns : goal.returns
returns c = λ documents lines text k.
    let task = c.args.self.now in
    compare_second documents lines text c.args.line.now _ task _ c.add.new.self c.in_ok-right.right (entry_view c.in_ok-entry.entry) k c.requires.part c.in_ok-entry.ensures c.in_ok-add.ensures c.in_ok-right.ensures.right c.check.ensures refl refl refl
    (c.in_ok-right.ensures.text ∙ ap (λ z. z ++ flat_map (compared_by task.documents (λ id. is_some (revs_at (docs_view task.docs) id)) (has_rev (docs_view task.docs))) (named_leaves (entry_view c.in_ok-entry.entry))) c.requires.empty)
