use Rattle.proof_prelude.proofs.{refl}
use Rattle.journal_tasks.specs.{lacks_view}
use Rattle.journal_tasks.proofs.{none_stored, noted_none}
use Rattle.journal_tasks.proofs.lacks.Lacks.note.Goals as goal

pub returns-then-is_empty : goal.returns-then-is_empty
returns-then-is_empty c = noted_none c.args.line.now c.is_lacks.result (lacks_view c.args.self.now.lines) c.is_lacks.ensures c.if-not-is_lacks.true (none_stored c.args.self.now.lines.entries (c.if-is_empty.ensures.0 refl))
