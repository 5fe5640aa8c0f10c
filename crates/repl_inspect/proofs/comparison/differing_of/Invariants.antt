-- The differing ones of the revisions so far are found.
use Rattle.proof_prelude.proofs.{◌≡◌, filter, take}
use Rattle.repl_inspect.specs.{differs}
use Rattle.repl_inspect.proofs.comparison.differing_of.Given as goal

abbrev pub invariant-loop-leaf : goal.invariant-loop-leaf
invariant-loop-leaf l = l.found.items ≡ filter (differs l.source l.target) (take l.leaf-index l.leaves)
