use Rattle.repl_world.proofs.{asked_more}
use Rattle.repl_world.proofs.bag.Bag.put_asked.Goals as goal

pub invariant_of-self-2 : goal.invariant_of-self-2
invariant_of-self-2 c = asked_more _ _ _ _ (c.args.window, c.args.asked) c.in_ok-push.ensures.items c.hi-hi.ensures.asked c.self.invariant
