-- What is written and what is left are all leaves.
use Rattle.proof_prelude.proofs.{◌≡◌, ◌++◌, drop}
use Rattle.relay_core.specs.Views.{texts_of}
use Rattle.relay_requests.specs.Bodies.{leaves_tokens}
use Rattle.relay_requests.proofs.bodies.put_leaves.Given as goal

abbrev pub invariant-loop-rev : goal.invariant-loop-rev
invariant-loop-rev l =
    (l.writer.before ≡ l.initial.writer.before) × (l.writer.tokens ++ leaves_tokens l.id (texts_of (drop l.rev-index l.revs)) ≡ l.initial.writer.tokens ++ leaves_tokens l.id (texts_of l.revs))
