use Rattle.journal_tasks.proofs.{state_found, state_put}
use Rattle.journal_tasks.proofs.state_map.put.Goals as goal

pub returns-clause-old : goal.returns-clause-old
returns-clause-old c = state_found c.args.states.now.entries c.args.id c.in_ok-old.old c.in_ok-old.ensures.old

pub returns-clause-states : goal.returns-clause-states
returns-clause-states c = state_put c.args.states.now.entries c.insert.new.self.entries c.args.id c.args.state c.in_ok-old.ensures.entries
