use Rattle.proof_prelude.proofs.{refl}
use Rattle.journal_tasks.proofs.{lacking_separator}
use Rattle.journal_tasks.proofs.lacking.Lacking.separator.Goals as goal

pub returns : goal.returns
returns c = λ lines text k. lacking_separator lines text c.args.line.now c.args.self.now _ k c.requires.part c.requires.line c.in_ok-add.ensures refl refl refl refl
