-- None of the revisions so far descends from the revision.
use Rattle.proof_prelude.proofs.{◌≡◌, drop}
use Rattle.journal_tasks.specs.{heads_view, is_ancestor}
use Rattle.journal_tasks.proofs.ranks.is_ancestor.Given as goal

abbrev pub invariant-loop-leaf : goal.invariant-loop-leaf
invariant-loop-leaf l = is_ancestor (heads_view (drop l.leaf-index l.leaves)) l.rev ≡ is_ancestor (heads_view l.leaves) l.rev
