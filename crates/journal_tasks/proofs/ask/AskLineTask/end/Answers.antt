use Rattle.proof_prelude.proofs.{◌++◌, [], codes, if◌then◌else◌, ap, sym, ◌∙◌}
use Rattle.journal_tasks.proofs.{ask_end}
use Rattle.journal_tasks.proofs.ask.AskLineTask.end.Goals as goal

pub returns-else-self : goal.returns-else-self
returns-else-self c = λ lines text k.
    ask_end lines text c.args.rest.now c.args.text.now.items c.args.self.now _ k (c.requires.empty ∙ ap (λ b. if b then codes "]}\n" else []) (sym c.if-self.false)) c.in_ok-end.ensures

pub returns-in_ok-extend_from_slice : goal.returns-in_ok-extend_from_slice
returns-in_ok-extend_from_slice c = λ lines text k.
    ask_end lines text c.args.rest.now c.extend_from_slice.new.self.items c.args.self.now _ k
    (c.in_ok-extend_from_slice.ensures.items ∙ ap (λ z. z ++ c.as_slice.result.now) c.requires.empty ∙ c.as_slice.ensures ∙ ap (λ b. if b then codes "]}\n" else []) (sym c.if-self.true)) c.in_ok-end.ensures
