use Rattle.proof_prelude.proofs.{◌++◌, sym, ap, ◌∙◌, arith, decimal_digit}
use Rattle.command_api.proofs.texts.push_count.Goals as goal

pub returns-then-count-lt10 : goal.returns-then-count-lt10
returns-then-count-lt10 c = c.in_ok-push.ensures.items ∙ ap (λ x. c.args.text.now.items ++ x) (sym (decimal_digit c.args.count (omega arith)))
