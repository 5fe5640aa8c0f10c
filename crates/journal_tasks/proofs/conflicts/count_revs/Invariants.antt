-- The revisions of the leaves so far are stored.
use Rattle.proof_prelude.proofs.{◌≡◌, flat_map, take}
use Rattle.journal_lines.specs.Lists.{texts_of}
use Rattle.journal_tasks.specs.{distinct, heads_view, revs_known}
use Rattle.journal_tasks.proofs.conflicts.count_revs.Given as goal

abbrev pub invariant-loop-leaf : goal.invariant-loop-leaf
invariant-loop-leaf l = texts_of l.revs.keys ≡ distinct (flat_map revs_known (heads_view (take l.leaf-index l.leaves)))
