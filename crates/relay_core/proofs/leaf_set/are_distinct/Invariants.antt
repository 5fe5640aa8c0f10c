-- The documents that are left have ids that are distinct, and no id that is known, exactly if all ids are distinct.
use Rattle.proof_prelude.proofs.{◌≡◌, ◌&&◌, drop}
use Rattle.relay_core.specs.Views.{docs_view}
use Rattle.relay_core.specs.Leaves.{are_distinct}
use Rattle.relay_core.proofs.LeafSets.{are_new}
use Rattle.relay_core.proofs.leaf_set.are_distinct.Given as goal

abbrev pub invariant-loop-doc : goal.invariant-loop-doc
invariant-loop-doc l =
    (are_distinct (docs_view (drop l.doc-index l.docs)) && are_new l.known.keys (docs_view (drop l.doc-index l.docs))) ≡ are_distinct (docs_view l.docs)
