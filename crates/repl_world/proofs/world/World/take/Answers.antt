use Rattle.repl_world.proofs.{taken_tied}
use Rattle.repl_world.proofs.world.World.take.Goals as goal

pub returns-clause-tied : goal.returns-clause-tied
returns-clause-tied g c =
    taken_tied (g.F.WriteFilter.refuses c.args.self.now.0.1) c.args.self.now.1 c.args.step.now c.do_step.result c.do_step.new.self.1 c.law.ensures c.do_step.ensures.ok c.do_step.ensures.err
