use Rattle.proof_prelude.proofs.{◌+◌, ◌≤◌, drop, length}
use Rattle.rev_tree.specs.{count_blocks}
use Rattle.rev_tree.proofs.nodes.long_blocks.Given as goal

-- the blocks so far, and the blocks of the remaining revisions
abbrev pub invariant-loop-rev : goal.invariant-loop-rev
invariant-loop-rev l = count_blocks l.revs ≤ length l.blocks.items + count_blocks (drop l.rev-index l.revs)
