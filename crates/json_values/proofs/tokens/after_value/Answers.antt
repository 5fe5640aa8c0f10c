use Rattle.proof_prelude.proofs.{◌≡◌, refl, sym, ap, ◌∙◌, arith}
use Rattle.json.specs.Word.{head}
use Rattle.json.specs.Lex.{class, after_value, after_comma, punctuate}
use Rattle.json_values.proofs.{at_operator}
use Rattle.json_values.proofs.tokens.after_value.Goals as goal

pub skip-requires : goal.skip-requires
skip-requires c = let e : head c.args.lexer.now.text ≡ 44 = omega (arith, c.peek.ensures.value) in ap class e

pub returns-then-peek-eq44-clause-same : goal.returns-then-peek-eq44-clause-same
returns-then-peek-eq44-clause-same c = unfold punctuate in ap (punctuate after_comma) c.skip.ensures.passed ∙ sym (ap (punctuate after_value) (at_operator 44 c.args.lexer.now.text refl (omega (arith, c.peek.ensures.value))))
