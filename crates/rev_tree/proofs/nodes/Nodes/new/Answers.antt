use Rattle.rev_tree.proofs.{IsIndexed-none}
use Rattle.rev_tree.proofs.nodes.Nodes.new.Goals as goal

pub invariant_of-result : goal.invariant_of-result
invariant_of-result c = rw c.new.ensures.items (IsIndexed-none c.new-2.result c.new-2.ensures.entries c.new-2.ensures.winners c.new-2.ensures.entered)
