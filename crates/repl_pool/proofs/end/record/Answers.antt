use Rattle.repl_pool.proofs.{grown_record}
use Rattle.repl_pool.proofs.end.record.Goals as goal

pub returns-in-Ok-clause-grown : goal.returns-in-Ok-clause-grown
returns-in-Ok-clause-grown g c db chosen = grown_record g.F.WriteFilter.refuses db chosen c.args.plan.now.session c.args.target.now c.record.new.self c.args.plan.now.at c.record.ensures.filter c.record.ensures.peer

pub returns-in-Err-clause-grown : goal.returns-in-Err-clause-grown
returns-in-Err-clause-grown g c db chosen = grown_record g.F.WriteFilter.refuses db chosen c.args.plan.now.session c.args.target.now c.record.new.self c.args.plan.now.at c.record.ensures.filter c.record.ensures.peer
