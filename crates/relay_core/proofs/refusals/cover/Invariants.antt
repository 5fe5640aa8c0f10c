use Rattle.proof_prelude.proofs.{◌≡◌, drop}
use Rattle.relay_core.specs.Views.{docs_view, row_errors_view}
use Rattle.relay_core.specs.Leaves.{cover}
use Rattle.relay_core.proofs.refusals.cover.Given as goal

abbrev pub invariant-loop-doc : goal.invariant-loop-doc
invariant-loop-doc l = cover (row_errors_view l.rows) (docs_view (drop l.doc-index l.docs)) ≡ cover (row_errors_view l.rows) (docs_view l.docs)
