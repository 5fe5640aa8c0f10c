use Rattle.repl_pool.proofs.{ends_either, held_grown}
use Rattle.repl_pool.proofs.end.end.Goals as goal

pub put_entry-outcome-requires : goal.put_entry-outcome-requires
put_entry-outcome-requires g c = record {
  held =
      held_grown g.F.WriteFilter.refuses c.args.source.1.db c.args.plan.now.chosen c.args.summed.target c.close_target-concluded.new.target c.args.plan.now.session c.law.ensures.database c.law-2.ensures.peer.sessions
      (c.close_target-concluded.ensures.grown c.args.source.1.db c.args.plan.now.chosen) c.requires.held;
}

pub returns-clause-ends : goal.returns-clause-ends
returns-clause-ends g c =
    ends_either c.args.plan.now c.args.summed.fault c.args.summed.complete c.args.source.1 c.args.summed.target.1 c.put_entry-outcome.new.source.1 c.close_target-concluded.new.target.1 c.close_target-concluded.result c.put_entry-outcome.result
    c.close_target-concluded.ensures.ok c.close_target-concluded.ensures.err c.put_entry-outcome.ensures.told c.put_entry-outcome.ensures.puts
