use Rattle.proof_prelude.proofs.{OnOk, subst, sym}
use Rattle.line_reader.specs.Tasks.{StepsBy}
use Rattle.journal_tasks.specs.Missing.{IsLacking}
use Rattle.journal_tasks.proofs.lacking.LackingLineTask.line.Goals as goal

pub returns-then-self : goal.returns-then-self
returns-then-self c = subst (λ z. OnOk c.response_line.result (StepsBy IsLacking c.args.self.now c.args.line.now z c.response_line.new.self)) (sym c.requires.empty) c.response_line.ensures

pub returns-then-is_empty : goal.returns-then-is_empty
returns-then-is_empty c = subst (λ z. OnOk c.separator.result (StepsBy IsLacking c.args.self.now c.args.line.now z c.separator.new.self)) (sym c.requires.empty) c.separator.ensures

pub returns : goal.returns
returns c = subst (λ z. OnOk c.list_line.result (StepsBy IsLacking c.args.self.now c.args.line.now z c.list_line.new.self)) (sym c.requires.empty) c.list_line.ensures
