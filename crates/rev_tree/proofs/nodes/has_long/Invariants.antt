use Rattle.proof_prelude.proofs.{◌≡◌, drop}
use Rattle.rev_tree.specs.{count_blocks}
use Rattle.rev_tree.proofs.nodes.has_long.Given as goal

-- the remaining revisions need all blocks
abbrev pub invariant-loop-rev : goal.invariant-loop-rev
invariant-loop-rev l = count_blocks l.revs ≡ count_blocks (drop l.rev-index l.revs)
