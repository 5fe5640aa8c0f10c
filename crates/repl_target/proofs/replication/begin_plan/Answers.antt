use Rattle.proof_prelude.proofs.{rules}
use Rattle.repl_target.proofs.replication.begin_plan.Goals as goal

pub returns-clause-ok : goal.returns-clause-ok
returns-clause-ok g c = search rules
