use Rattle.proof_prelude.proofs.{◌++◌, sym, ap, ◌∙◌, arith, decimal_digit}
use Rattle.command_api.proofs.texts.push_generation.Goals as goal

pub returns-then-generation-lt10 : goal.returns-then-generation-lt10
returns-then-generation-lt10 c = c.in_ok-push.ensures.items ∙ ap (λ x. c.args.text.now.items ++ x) (sym (decimal_digit c.args.generation (omega arith)))
