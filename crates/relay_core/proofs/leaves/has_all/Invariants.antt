use Rattle.proof_prelude.proofs.{◌≡◌, drop}
use Rattle.relay_core.specs.Views.{docs_view}
use Rattle.relay_core.specs.LeafSets.{has_leaf, all_leaves}
use Rattle.relay_core.proofs.leaves.has_all.Given as goal

abbrev pub invariant-loop-doc : goal.invariant-loop-doc
invariant-loop-doc l = all_leaves (has_leaf l.leaves.keys) (docs_view (drop l.doc-index l.docs)) ≡ all_leaves (has_leaf l.leaves.keys) (docs_view l.docs)
