use Rattle.proof_prelude.proofs.{◌≡◌, ◌+◌, length, drop}
use Rattle.relay_core.specs.Views.{docs_view}
use Rattle.relay_core.specs.Leaves.{leaf_count}
use Rattle.relay_core.proofs.refusals.refused_leaves.Given as goal

abbrev pub invariant-loop-doc : goal.invariant-loop-doc
invariant-loop-doc l = length l.leaves.items + leaf_count (docs_view (drop l.doc-index l.docs)) ≡ leaf_count (docs_view l.docs)
