-- The leaves so far contradict nothing.
use Rattle.proof_prelude.proofs.{◌≡◌, drop}
use Rattle.repl_inspect.specs.{contradiction_under}
use Rattle.repl_inspect.proofs.comparison.first_under.Given as goal

abbrev pub invariant-loop-leaf : goal.invariant-loop-leaf
invariant-loop-leaf l = contradiction_under l.source l.target (drop l.leaf-index l.leaves) ≡ contradiction_under l.source l.target l.leaves
