use Rattle.proof_prelude.proofs.{[], ◌++◌, ap, codes, if◌then◌else◌, refl, ◌∙◌}
use Rattle.journal_tasks.proofs.{second_step}
use Rattle.journal_tasks.proofs.select.Select.second_line.Goals as goal

pub returns : goal.returns
returns c = λ choice lines text k.
    second_step choice lines text c.args.line.now _ c.args.self.now _ c.is_printed-printed.result k c.requires.first refl refl refl c.hash_line.ensures c.in_ok-self.ensures refl refl refl c.is_printed-printed.ensures
    (c.in_ok-push_line.ensures ∙ ap (λ z. z ++ (if c.is_printed-printed.result then c.args.line.now ++ codes "\n" else [])) c.requires.empty)
