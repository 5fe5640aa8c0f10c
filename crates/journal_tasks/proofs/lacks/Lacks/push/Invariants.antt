-- The lines that are written and those that are left are all lines.
use Rattle.proof_prelude.proofs.{◌≡◌, ◌++◌, drop, map, string_bytes}
use Rattle.journal_tasks.specs.{lacks_text, lacks_view}
use Rattle.journal_tasks.proofs.lacks.Lacks.push.Given as goal

abbrev pub invariant-loop-index : goal.invariant-loop-index
invariant-loop-index l = l.text.items ++ lacks_text (map (λ entry. (string_bytes entry.0, entry.1.items)) (drop l.index l.self.lines.entries)) ≡ l.fn.text.items ++ lacks_text (lacks_view l.self.lines)
