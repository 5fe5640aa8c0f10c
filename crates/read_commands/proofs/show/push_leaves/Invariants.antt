-- The leaves so far have been printed.
use Rattle.proof_prelude.proofs.{◌≡◌, ◌++◌, take, flat_map}
use Rattle.read_commands.specs.{leaf_line}
use Rattle.read_commands.proofs.show.push_leaves.Given as goal

abbrev pub invariant-loop-leaf : goal.invariant-loop-leaf
invariant-loop-leaf l = l.answer.items ≡ l.fn.answer.items ++ flat_map (leaf_line l.tree) (take l.leaf-index l.leaves)
