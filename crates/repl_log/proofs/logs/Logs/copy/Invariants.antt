use Rattle.proof_prelude.proofs.{◌≡◌, take}
use Rattle.repl_log.proofs.logs.Logs.copy.Given as goal

-- the logs so far
abbrev pub invariant-loop-place : goal.invariant-loop-place
invariant-loop-place l = l.logs.entries ≡ take l.place l.self-inside.logs.entries
