use Rattle.proof_prelude.proofs.{length, ap, arith}
use Rattle.rev_tree.specs.{revs_in}
use Rattle.rev_tree.proofs.{length-revs_in, index_short}
use Rattle.rev_tree.proofs.nodes.Nodes.make_room.Goals as goal

pub reserve_index-requires : goal.reserve_index-requires
reserve_index-requires c =
    let items = c.self.inside.list.items in
    omega (arith, index_short (revs_in items) c.self.inside.places.entries c.self.invariant.index, length-revs_in items, c.as_slice.ensures.len, ap length c.as_slice.ensures.value)
