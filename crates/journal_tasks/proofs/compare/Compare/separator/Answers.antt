use Rattle.proof_prelude.proofs.{refl}
use Rattle.journal_tasks.proofs.{compare_separator}
use Rattle.journal_tasks.proofs.compare.Compare.separator.Goals as goal

pub returns : goal.returns
returns c = λ documents lines text k. compare_separator documents lines text c.args.line.now c.args.self.now _ k c.requires.part c.requires.line c.in_ok-add.ensures refl refl refl
