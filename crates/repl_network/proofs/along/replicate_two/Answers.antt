use Rattle.repl_target.proofs.{left_law, replicates_leaves}
use Rattle.repl_network.proofs.along.replicate_two.Goals as goal

pub returns-clause-carried : goal.returns-clause-carried
returns-clause-carried g c =
    let e = c.replicate_alone-answer.ensures in
    let leaves = replicates_leaves (g.F.WriteFilter.refuses c.args.target.now.0) c.args.source.now.1 c.args.target.now.1 c.args.plan.now _ _ _ e.replicates e.source e.tied e.others in
    record {
      source_law = c.law.ensures.database;
      target_law = c.law-3.ensures.database;
      later = (left_law _ c.args.source.now.1 c.args.target.now.1 c.args.plan.now _ c.law.ensures.database c.law-2.ensures.peer.sessions leaves.left).1;
      leaves = leaves;
    }
