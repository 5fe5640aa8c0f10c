use Rattle.proof_prelude.proofs.{◌≡◌, ◌++◌, false, take}
use Rattle.repl_log.specs.{listed}
use Rattle.repl_log.proofs.written.push_entries.Given as goal

-- the entries so far follow the previous content
abbrev pub invariant-loop-i : goal.invariant-loop-i
invariant-loop-i l = l.out.items ≡ l.fn.out.items ++ listed false (take l.i l.log)
