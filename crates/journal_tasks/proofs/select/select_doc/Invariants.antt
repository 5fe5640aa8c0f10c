-- The leaves so far are selected.
use Rattle.proof_prelude.proofs.{◌≡◌, ◌||◌, ℕ, map, take}
use Rattle.journal_lines.specs.Lists.{texts_of}
use Rattle.journal_tasks.specs.{has_number, is_number_of, lacks_number, number_at}
use Rattle.journal_tasks.proofs.select.select_doc.Given as goal

abbrev pub invariant-loop-rev : goal.invariant-loop-rev
invariant-loop-rev l = record {
  lacks : l.lacks ≡ lacks_number (number_at l.numbers) (map (λ rev. (l.id, rev)) (texts_of (take l.rev-index l.revs)));
  selected : (number : ℕ) → has_number l.selected number ≡ (has_number l.fn.selected number || is_number_of (number_at l.numbers) (map (λ rev. (l.id, rev)) (texts_of (take l.rev-index l.revs))) number);
}
