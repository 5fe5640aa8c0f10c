use Rattle.journal_lines.specs.Docs.{docs_view}
use Rattle.journal_tasks.proofs.{rev_found}
use Rattle.journal_tasks.proofs.stored.has_leaf.Goals as goal

pub returns-in-Some : goal.returns-in-Some
returns-in-Some c = rev_found (docs_view c.args.docs.now) c.args.id.now c.args.rev.now c.in-Some.revs.now.keys c.contains.result c.in-Some.ensures c.contains.ensures
