use Rattle.proof_prelude.proofs.{◌++◌, ◌∷◌, [], ap, refl, ◌∙◌}
use Rattle.journal_tasks.proofs.{lacking_response}
use Rattle.journal_tasks.proofs.lacking.Lacking.response_line.Goals as goal

pub returns : goal.returns
returns c = λ lines text k.
    lacking_response lines text c.args.line.now c.args.self.now _ k c.requires.part c.in_ok-add.ensures refl refl (c.in_ok-push.ensures.items ∙ ap (λ z. z ++ 10 ∷ []) c.in_ok-extend_from_slice.ensures.items) refl
