use Rattle.proof_prelude.proofs.{OnOk, subst, sym}
use Rattle.journal_tasks.specs.Arguments.{StepsFor}
use Rattle.journal_tasks.specs.Selecting.{IsSelecting}
use Rattle.journal_tasks.proofs.select.SelectLineTask.line.Goals as goal

pub returns-then-is_in_first : goal.returns-then-is_in_first
returns-then-is_in_first c = subst (λ z. OnOk c.first_line.result (StepsFor IsSelecting c.args.self.now c.args.line.now z c.first_line.new.self)) (sym c.requires.empty) c.first_line.ensures
