-- The lines of the revisions so far are appended.
use Rattle.proof_prelude.proofs.{◌≡◌, ◌++◌, map, string_bytes, take}
use Rattle.journal_lines.specs.Lists.{texts_of}
use Rattle.journal_tasks.specs.Naming.{name_lines}
use Rattle.journal_tasks.proofs.name.Name.push_all.Given as goal

abbrev pub invariant-loop-rev : goal.invariant-loop-rev
invariant-loop-rev l = l.text.items ≡ l.fn.text.items ++ name_lines (string_bytes l.self.word) (map (λ rev. (l.id, rev)) (texts_of (take l.rev-index l.revs)))
