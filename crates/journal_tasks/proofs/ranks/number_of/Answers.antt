use Rattle.journal_tasks.proofs.{number_no, number_yes}
use Rattle.journal_tasks.proofs.ranks.number_of.Goals as goal

pub returns-in-Ok : goal.returns-in-Ok
returns-in-Ok c = number_yes c.args.text.now c.in-Ok.number c.in-Ok.ensures.value.0

pub returns-in-Err : goal.returns-in-Err
returns-in-Err c = number_no c.args.text.now c.in-Err.ensures.value.0
