-- What is written and what is left are all documents.
use Rattle.proof_prelude.proofs.{◌≡◌, ◌++◌, drop}
use Rattle.relay_core.specs.Views.{docs_view}
use Rattle.relay_requests.specs.Bodies.{all_leaves_tokens}
use Rattle.relay_requests.proofs.bodies.put_all_leaves.Given as goal

abbrev pub invariant-loop-doc : goal.invariant-loop-doc
invariant-loop-doc l =
    (l.writer.before ≡ l.initial.writer.before) × (l.writer.tokens ++ all_leaves_tokens (docs_view (drop l.doc-index l.docs)) ≡ l.initial.writer.tokens ++ all_leaves_tokens (docs_view l.docs))
