-- The lines so far are noted.
use Rattle.proof_prelude.proofs.{◌≡◌, take}
use Rattle.journal_tasks.specs.{lacks_view, noted_all, texts_in}
use Rattle.journal_tasks.proofs.lacks.Lacks.note_all.Given as goal

abbrev pub invariant-loop-line : goal.invariant-loop-line
invariant-loop-line l = lacks_view l.self.lines ≡ noted_all (texts_in (take l.line-index l.lines)) (lacks_view l.fn.self.lines)
