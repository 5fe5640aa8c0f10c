use Rattle.proof_prelude.proofs.{option_map, refl}
use Rattle.journal_lines.specs.Entries.{entry_view}
use Rattle.journal_lines.specs.Leafs.{head_view}
use Rattle.journal_tasks.proofs.{reading_body, reading_sum}
use Rattle.journal_tasks.proofs.journal.Journal.line.Goals as goal

pub returns-then-is_sum : goal.returns-then-is_sum
returns-then-is_sum c = λ unverified lines k.
    reading_sum unverified lines c.args.line.now c.args.self.now _ c.in_ok-verify.field-0 c.is_sum.result k c.in_ok-verify.ensures c.if-not-branch.false c.is_sum.ensures c.if-is_sum.true refl refl c.in_ok-add.ensures refl

pub returns : goal.returns
returns c = λ unverified lines k.
    reading_body unverified lines c.args.line.now c.args.self.now _ c.add.new.self c.in_ok-verify.field-0 c.is_sum.result (entry_view c.in_ok-entry.entry) (option_map head_view c.in_ok-leaf.leaf) k c.in_ok-verify.ensures c.if-not-branch.false c.is_sum.ensures c.if-is_sum.false c.in_ok-entry.ensures refl refl c.in_ok-add.ensures
    c.in_ok-leaf.ensures.count c.in_ok-leaf.ensures.states c.in_ok-leaf.ensures.head
