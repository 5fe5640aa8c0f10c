use Rattle.repl_world.proofs.{trustworthy}
use Rattle.repl_world.proofs.world.World.run.Goals as goal

pub returns-clause-trust : goal.returns-clause-trust
returns-clause-trust g c = λ h. trustworthy _ _ c.law.ensures (c.take_all-answer.ensures.tied h)
