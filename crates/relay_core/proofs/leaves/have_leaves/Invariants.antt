use Rattle.proof_prelude.proofs.{◌≡◌, drop}
use Rattle.relay_core.specs.Views.{docs_view}
use Rattle.relay_core.specs.Leaves.{have_leaves}
use Rattle.relay_core.proofs.leaves.have_leaves.Given as goal

abbrev pub invariant-loop-doc : goal.invariant-loop-doc
invariant-loop-doc l = have_leaves (docs_view (drop l.doc-index l.docs)) ≡ have_leaves (docs_view l.docs)
