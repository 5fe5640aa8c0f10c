use Rattle.repl_world.proofs.{parcel_more}
use Rattle.repl_world.proofs.bag.Bag.put_parcel.Goals as goal

pub invariant_of-self-2 : goal.invariant_of-self-2
invariant_of-self-2 c = parcel_more _ _ _ _ (c.args.window, c.args.parcel) c.in_ok-push.ensures.items c.hi-hi.ensures.parcel c.self.invariant
