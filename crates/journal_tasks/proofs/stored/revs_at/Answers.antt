use Rattle.journal_tasks.proofs.{revs_found}
use Rattle.journal_tasks.proofs.stored.revs_at.Goals as goal

pub returns : goal.returns
returns c = revs_found c.args.docs.now.entries c.args.id.now c.get.result c.get.ensures.value
