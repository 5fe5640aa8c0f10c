use Rattle.proof_prelude.proofs.{ap, ◌∙◌, arith, both_ways, true_from_ne_false, list_all_at}
use Rattle.rev_tree.specs.{has}
use Rattle.read_commands.proofs.show.push_leaves.Goals as goal

-- what holds for all holds for each
pub push_leaf-requires : goal.push_leaf-requires
push_leaf-requires c =
    ap (has c.args.tree.now) c.leaf-item.is
    ∙ true_from_ne_false _ (λ no. both_ways _ (list_all_at (has c.args.tree.now) c.args.leaves.now c.loop-leaf.leaf-index _ (omega arith) no) c.requires)
