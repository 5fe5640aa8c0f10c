-- The leaves of the documents that are added and of those that are left are all leaves.
use Rattle.proof_prelude.proofs.{◌≡◌, ◌||◌, drop}
use Rattle.relay_core.specs.Messages.{Text}
use Rattle.relay_core.specs.Views.{docs_view}
use Rattle.relay_core.specs.Leaves.{names}
use Rattle.relay_core.specs.LeafSets.{has_leaf}
use Rattle.relay_core.proofs.leaf_set.leaf_set.Given as goal

abbrev pub invariant-loop-doc : goal.invariant-loop-doc
invariant-loop-doc l = (id leaf : Text)
    → (has_leaf l.leaves.keys id leaf || names (docs_view (drop l.doc-index l.docs)) id leaf) ≡ names (docs_view l.docs) id leaf
