use Rattle.proof_prelude.proofs.{◌≡◌, ◌++◌, drop}
use Rattle.relay_core.specs.Views.{docs_view}
use Rattle.relay_core.specs.Leaves.{docs_where}
use Rattle.relay_core.specs.LeafSets.{has_leaf}
use Rattle.relay_core.proofs.leaves.leaves_in.Given as goal

abbrev pub invariant-loop-doc : goal.invariant-loop-doc
invariant-loop-doc l = docs_view l.kept.items ++ docs_where (λ id leaf. has_leaf l.leaves.keys id leaf) (docs_view (drop l.doc-index l.docs)) ≡ docs_where (λ id leaf. has_leaf l.leaves.keys id leaf) (docs_view l.docs)
