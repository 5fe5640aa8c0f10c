use Rattle.proof_prelude.proofs.{◌||◌, ap, refl}
use Rattle.journal_tasks.proofs.{select_end}
use Rattle.journal_tasks.proofs.select.SelectLineTask.end.Goals as goal

pub returns : goal.returns
returns c = λ choice lines text k.
    select_end choice lines text c.args.rest.now _ c.args.self.now _ c.take_hash-second.result k c.requires.empty (ap (λ b. c.args.self.now.damaged || b) c.is_in_first.ensures) c.is_copy_other-self.ensures c.take_hash-second.ensures.hash refl refl
