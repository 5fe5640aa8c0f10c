use Rattle.journal_tasks.proofs.{doc_put}
use Rattle.journal_tasks.proofs.received.put.Goals as goal

pub returns : goal.returns
returns c = doc_put c.args.docs.now c.insert.new.self c.in_ok-key.key c.args.doc _ c.in_ok-key.ensures.ok c.in_ok-insert.ensures.updates
