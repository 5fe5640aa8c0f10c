use Rattle.proof_prelude.proofs.{refl, sym, ◌∙◌}
use Rattle.journal_tasks.specs.{noted_all, texts_in}
use Rattle.journal_tasks.proofs.{noted_untold}
use Rattle.journal_tasks.proofs.confirm.Confirm.keep.Goals as goal

pub returns-else-is_told : goal.returns-else-is_told
returns-else-is_told c = record { same = refl; pending = λ t. sym (noted_untold c.args.line.now (noted_all (texts_in c.args.self.now.pending.items) t) (sym c.is_told.ensures ∙ c.if-is_told.false)) }
