use Rattle.proof_prelude.proofs.{◌∙◌}
use Rattle.journal_lines.specs.Leafs.{head_view}
use Rattle.journal_tasks.proofs.{history_added}
use Rattle.journal_tasks.proofs.conflicts.add_leaf.Goals as goal

pub returns : goal.returns
returns c =
    history_added c.args.docs.now.entries c.insert.new.self.entries c.insert-2.new.self.entries c.in_ok-key.key c.in_ok-again.again c.new.result c.in_ok-leaves.leaves c.or_empty.result.items c.in_ok-old.old (head_view c.args.leaf)
    (c.in_ok-key.ensures.ok ∙ c.as_str.ensures.value) (c.in_ok-again.ensures.ok ∙ c.as_str-2.ensures.value) c.new.ensures.items c.in_ok-old.ensures.old c.in_ok-old.ensures.entries c.or_empty.ensures c.in_ok-leaves.ensures c.in_ok-insert.ensures.entries
