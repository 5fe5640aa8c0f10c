use Rattle.proof_prelude.proofs.{[], refl}
use Rattle.journal_tasks.specs.{choice_of}
use Rattle.journal_tasks.proofs.{none_numbered, select_none}
use Rattle.journal_tasks.proofs.select.Select.new.Goals as goal

pub returns : goal.returns
returns c =
    let choice = choice_of c.args.size c.args.filter in
    c.in_ok-end_first.ensures choice [] (select_none choice _ refl c.in_ok-journal.ensures (none_numbered c.new-2.result c.new-2.ensures.empty) refl c.new-3.ensures refl c.new-4.ensures.empty refl refl) refl refl
