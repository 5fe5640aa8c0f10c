-- The lines of the leaves so far are appended.
use Rattle.proof_prelude.proofs.{◌≡◌, ◌++◌, flat_map, map, take}
use Rattle.journal_lines.specs.Leafs.{head_view}
use Rattle.journal_tasks.specs.{leaf_line}
use Rattle.journal_tasks.proofs.conflicts.push_leaves.Given as goal

abbrev pub invariant-loop-leaf : goal.invariant-loop-leaf
invariant-loop-leaf l = l.text.items ≡ l.fn.text.items ++ flat_map leaf_line (map (λ leaf. head_view leaf.now) (take l.leaf-index l.leaves))
