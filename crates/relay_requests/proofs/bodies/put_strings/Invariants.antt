-- What is written and what is left are all strings.
use Rattle.proof_prelude.proofs.{◌≡◌, ◌++◌, drop}
use Rattle.relay_core.specs.Views.{texts_of}
use Rattle.relay_requests.specs.Bodies.{strings}
use Rattle.relay_requests.proofs.bodies.put_strings.Given as goal

abbrev pub invariant-loop-text : goal.invariant-loop-text
invariant-loop-text l =
    (l.writer.before ≡ l.initial.writer.before) × (l.writer.tokens ++ strings (texts_of (drop l.text-index l.texts)) ≡ l.initial.writer.tokens ++ strings (texts_of l.texts))
