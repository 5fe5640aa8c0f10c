use Rattle.proof_prelude.proofs.{refl}
use Rattle.journal_tasks.specs.{is_wrong}
use Rattle.journal_tasks.proofs.{count_none}
use Rattle.journal_tasks.proofs.ask.Ask.new.Goals as goal

pub returns : goal.returns
returns c = record { counting = count_none is_wrong c.new-2.result c.new-2.ensures; begun = refl; text_is = refl }
