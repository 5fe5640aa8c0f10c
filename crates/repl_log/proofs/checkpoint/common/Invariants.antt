use Rattle.proof_prelude.proofs.{◌≡◌, drop}
use Rattle.repl_log.specs.{common}
use Rattle.repl_log.proofs.checkpoint.common.Given as goal

-- no session so far is shared, so the remaining ones decide
abbrev pub invariant-loop-i : goal.invariant-loop-i
invariant-loop-i l = common l.source l.target ≡ common l.source (drop l.i l.target)
