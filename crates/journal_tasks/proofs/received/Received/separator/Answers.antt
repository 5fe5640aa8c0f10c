use Rattle.proof_prelude.proofs.{refl}
use Rattle.journal_tasks.proofs.{break_step}
use Rattle.journal_tasks.proofs.received.Received.separator.Goals as goal

pub returns : goal.returns
returns c = λ only lines text k. break_step only lines text c.args.line.now c.args.self.now _ k c.requires.part c.requires.line c.in_ok-add.ensures refl refl refl refl
