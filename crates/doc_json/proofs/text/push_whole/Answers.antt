use Rattle.proof_prelude.proofs.{◌++◌, sym, ap, ◌∙◌, arith, decimal_digit}
use Rattle.doc_json.proofs.text.push_whole.Goals as goal

pub returns-then-n-lt10 : goal.returns-then-n-lt10
returns-then-n-lt10 c = c.in_ok-push.ensures.items ∙ ap (λ x. c.args.out.now.items ++ x) (sym (decimal_digit c.args.n (omega arith)))
