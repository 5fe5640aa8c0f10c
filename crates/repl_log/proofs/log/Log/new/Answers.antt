use Rattle.proof_prelude.proofs.{sym, subst}
use Rattle.repl_log.specs.{IsLog, IsLog-nothing}
use Rattle.repl_log.proofs.{Entries, logged, Keyed}
use Rattle.repl_log.proofs.log.Log.new.Goals as goal

pub invariant_of-result : goal.invariant_of-result
invariant_of-result c = subst (λ (es : Entries). IsLog (logged es) × Keyed es) (sym c.new.ensures.empty) (IsLog-nothing, tt)

pub returns-clause-log : goal.returns-clause-log
returns-clause-log c = subst (λ (es : Entries). IsLog (logged es)) (sym c.new.ensures.empty) IsLog-nothing
