use Rattle.proof_prelude.proofs.{OnOk, subst, sym}
use Rattle.journal_tasks.specs.Arguments.{StepsFor}
use Rattle.journal_tasks.specs.Comparing.{IsComparing}
use Rattle.journal_tasks.proofs.compare.CompareLineTask.line.Goals as goal

pub returns-then-is_empty : goal.returns-then-is_empty
returns-then-is_empty c = subst (λ z. OnOk c.separator.result (StepsFor IsComparing c.args.self.now c.args.line.now z c.separator.new.self)) (sym c.requires.empty) c.separator.ensures

pub returns : goal.returns
returns c = subst (λ z. OnOk c.first_line.result (StepsFor IsComparing c.args.self.now c.args.line.now z c.first_line.new.self)) (sym c.requires.empty) c.first_line.ensures
