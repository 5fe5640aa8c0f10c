-- The live ones of the revisions so far are found.
use Rattle.proof_prelude.proofs.{◌≡◌, not, filter, take}
use Rattle.rev_tree.specs.{is_deleted}
use Rattle.repl_inspect.proofs.conflicts.live_of.Given as goal

abbrev pub invariant-loop-rev : goal.invariant-loop-rev
invariant-loop-rev l = l.found.items ≡ filter (λ r. not (is_deleted l.tree r)) (take l.rev-index l.revs)
